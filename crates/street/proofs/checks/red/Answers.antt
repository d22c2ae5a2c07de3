use mathlib.Core.Path.{sym, ap, ◌∙◌}
use native.Mathlib.Omega.{arith}
use borrow.Author.Count.{below_none, below_more}
use borrow.Author.Tests.{lt-ltb, le-ltb}
use Rattle.circle.proofs.Numbers.{first_at, first_nowhere}
use Rattle.street.specs.declared.Code.TheVariants.{Red}
use Rattle.street.specs.Checks.{red_check, fault_at}
use Rattle.street.proofs.checks.red.Goals as goal

pub loop-i-init : goal.loop-i-init
loop-i-init c = below_none _

pub returns-then-ticks-red : goal.returns-then-ticks-red
unfolding red_check
returns-then-ticks-red c =
    let at = c.loop-i in
    let here = first_at _ _ _ c.loop-i-test.true at.invariant (lt-ltb _ _ c.if-ticks-red.true) in
    c.refused.ensures ∙ sym (ap (fault_at Red) here)

pub loop-i-preserved : goal.loop-i-preserved
loop-i-preserved c = below_more _ _ c.loop-i.invariant (le-ltb _ _ c.if-ticks-red.false)

pub returns : goal.returns
unfolding red_check
returns c = sym (ap (fault_at Red) (first_nowhere _ _ (λ k l. c.loop-i.invariant k (omega arith))))
