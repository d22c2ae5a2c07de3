use mathlib.Core.Path.{sym, ap, ◌∙◌}
use native.Mathlib.Omega.{arith}
use borrow.Author.Count.{below_none, below_more}
use borrow.Author.Tests.{le-leb, lt-leb}
use Rattle.circle.proofs.Numbers.{first_at, first_nowhere}
use Rattle.street.specs.Checks.{fault_at}
use Rattle.street.specs.declared.Code.TheVariants.{Offset}
use Rattle.bands.specs.Measure.{offset_check}
use Rattle.bands.proofs.offset.Goals as goal

pub loop-j-init : goal.loop-j-init
loop-j-init c = below_none _

pub returns-then-h-offset : goal.returns-then-h-offset
unfolding offset_check
returns-then-h-offset c =
    let at = c.loop-j in
    let here = first_at _ _ _ c.loop-j-test.true at.invariant (le-leb _ _ c.if-h-offset.true) in
    c.refused.ensures ∙ sym (ap (fault_at Offset) here)

pub loop-j-preserved : goal.loop-j-preserved
loop-j-preserved c = below_more _ _ c.loop-j.invariant (lt-leb _ _ c.if-h-offset.false)

pub returns : goal.returns
unfolding offset_check
returns c = sym (ap (fault_at Offset) (first_nowhere _ _ (λ k l. c.loop-j.invariant k (omega arith))))
