use mathlib.Core.Path.{sym, ap, ◌∙◌}
use native.Mathlib.Omega.{arith}
use borrow.Author.Count.{below_none, below_more}
use Rattle.circle.proofs.Numbers.{first_at, first_nowhere}
use Rattle.street.specs.declared.Code.TheVariants.{Speed}
use Rattle.street.specs.Checks.{speed_check, fault_at}
use Rattle.street.proofs.checks.speed.Goals as goal

pub loop-i-init : goal.loop-i-init
loop-i-init c = below_none _

pub returns-then-off_speed : goal.returns-then-off_speed
unfolding speed_check
returns-then-off_speed c = c.refused.ensures ∙ sym (ap (fault_at Speed) (first_at _ _ _ c.loop-i-test.true c.loop-i.invariant (sym c.off_speed.ensures ∙ c.if-off_speed.true)))

pub loop-i-preserved : goal.loop-i-preserved
loop-i-preserved c = below_more _ _ c.loop-i.invariant (sym c.off_speed.ensures ∙ c.if-off_speed.false)

pub returns : goal.returns
unfolding speed_check
returns c = sym (ap (fault_at Speed) (first_nowhere _ _ (λ k l. c.loop-i.invariant k (omega arith))))
