-- `widths::short_enough` meets its contract: the two tests decide the definition.
use borrow.Author.Tests.{le-leb, lt-leb}
use Rattle.widths.specs.Checks.{platoon_check}
use Rattle.widths.proofs.short_enough.Goals as goal

pub returns-then-outbound-gt-MAX_PLATOON : goal.returns-then-outbound-gt-MAX_PLATOON
unfolding platoon_check
returns-then-outbound-gt-MAX_PLATOON c = simp (c.refused.ensures, lt-leb _ _ c.if-outbound-gt-MAX_PLATOON.true)

pub returns-then-inbound-gt-MAX_PLATOON : goal.returns-then-inbound-gt-MAX_PLATOON
unfolding platoon_check
returns-then-inbound-gt-MAX_PLATOON c = simp (c.refused-then-inbound-gt-MAX_PLATOON.ensures, le-leb _ _ c.if-outbound-gt-MAX_PLATOON.false, lt-leb _ _ c.if-inbound-gt-MAX_PLATOON.true)

pub returns : goal.returns
unfolding platoon_check
returns c = simp (le-leb _ _ c.if-outbound-gt-MAX_PLATOON.false, le-leb _ _ c.if-inbound-gt-MAX_PLATOON.false)
