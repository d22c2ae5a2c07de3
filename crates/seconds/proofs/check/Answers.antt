-- `seconds::check` meets its contract: the test decides the definition.
use Prim.Native.Nat.{◌%◌}
use native.Mathlib.Omega.{arith}
use borrow.Author.Tests.{eq-eqb, ne_eqb}
use Rattle.seconds.specs.Seconds.{second_ticks, seconds_check}
use Rattle.seconds.proofs.check.Goals as goal

pub returns-then-cycle-gt0 : goal.returns-then-cycle-gt0
unfolding seconds_check
returns-then-cycle-gt0 c = simp (c.refused.ensures, ne_eqb (c.args.cycle % second_ticks) 0 (λ e. omega (arith, e, c.if-cycle-gt0.true)))

pub returns : goal.returns
unfolding seconds_check
returns c = simp (eq-eqb (c.args.cycle % second_ticks) 0 (omega (arith, c.if-cycle-gt0.false)))
