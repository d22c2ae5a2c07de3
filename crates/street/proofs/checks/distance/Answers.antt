use mathlib.Core.Path.{sym, ap, ◌∙◌}
use native.Mathlib.Omega.{arith}
use borrow.Author.Count.{below_none, below_more}
use Rattle.circle.proofs.Numbers.{first_at, first_nowhere}
use Rattle.street.specs.declared.Code.TheVariants.{Distance}
use Rattle.street.specs.Checks.{distance_check, fault_at}
use Rattle.street.proofs.checks.distance.Goals as goal

pub loop-i-init : goal.loop-i-init
loop-i-init c = below_none _

pub returns-then-misplaced : goal.returns-then-misplaced
unfolding distance_check
returns-then-misplaced c = c.refused.ensures ∙ sym (ap (fault_at Distance) (first_at _ _ _ c.loop-i-test.true c.loop-i.invariant (sym c.misplaced.ensures ∙ c.if-misplaced.true)))

pub loop-i-preserved : goal.loop-i-preserved
loop-i-preserved c = below_more _ _ c.loop-i.invariant (sym c.misplaced.ensures ∙ c.if-misplaced.false)

pub returns : goal.returns
unfolding distance_check
returns c = sym (ap (fault_at Distance) (first_nowhere _ _ (λ k l. c.loop-i.invariant k (omega arith))))
