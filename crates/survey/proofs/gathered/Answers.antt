use native.Mathlib.Omega.{arith}
use Rattle.std.proofs.lemmas.Grind.{common_steps}
use Rattle.survey.proofs.gathered.Goals as goal

pub loop-i-preserved : goal.loop-i-preserved
loop-i-preserved c = record { room = grind (arith, common_steps); rows = λ j l. grind (arith, common_steps, c.loop-i.invariant.rows j) }
