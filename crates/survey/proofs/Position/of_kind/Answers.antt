-- `survey::Position::of_kind` meets its contract: where the kind is neither 0 nor 1 the float is the NaN.
use Rattle.std.proofs.Common.{arith}
use Rattle.std.proofs.lemmas.Grind.{common_steps}
use Rattle.std.specs.Float.Ieee.{of_bits}
use Rattle.survey.proofs.Position.of_kind.Goals as goal

pub returns-in_default : goal.returns-in_default
unfolding of_bits
returns-in_default c = grind (arith, common_steps)
