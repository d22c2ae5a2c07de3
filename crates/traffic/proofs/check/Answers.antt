-- `traffic::check` meets its contract: the four tests decide the definition.
use borrow.Author.Tests.{le-leb, lt-leb}
use Rattle.traffic.specs.Checks.{volume_check}
use Rattle.traffic.proofs.check.Goals as goal

pub returns-then-outbound-gt-MAX_VOLUME : goal.returns-then-outbound-gt-MAX_VOLUME
unfolding volume_check
returns-then-outbound-gt-MAX_VOLUME c = simp (c.refused.ensures, lt-leb _ _ c.if-outbound-gt-MAX_VOLUME.true)

pub returns-then-inbound-gt-MAX_VOLUME : goal.returns-then-inbound-gt-MAX_VOLUME
unfolding volume_check
returns-then-inbound-gt-MAX_VOLUME c = simp (c.refused-then-inbound-gt-MAX_VOLUME.ensures, le-leb _ _ c.if-outbound-gt-MAX_VOLUME.false, lt-leb _ _ c.if-inbound-gt-MAX_VOLUME.true)

pub returns-then-headway-lt-MIN_HEADWAY : goal.returns-then-headway-lt-MIN_HEADWAY
unfolding volume_check
returns-then-headway-lt-MIN_HEADWAY c =
    simp (c.refused-then-headway-lt-MIN_HEADWAY.ensures, le-leb _ _ c.if-outbound-gt-MAX_VOLUME.false, le-leb _ _ c.if-inbound-gt-MAX_VOLUME.false, lt-leb _ _ c.if-headway-lt-MIN_HEADWAY.true)

pub returns-then-headway-gt-MAX_HEADWAY : goal.returns-then-headway-gt-MAX_HEADWAY
unfolding volume_check
returns-then-headway-gt-MAX_HEADWAY c =
    simp (c.refused-then-headway-gt-MAX_HEADWAY.ensures, le-leb _ _ c.if-outbound-gt-MAX_VOLUME.false, le-leb _ _ c.if-inbound-gt-MAX_VOLUME.false, le-leb _ _ c.if-headway-lt-MIN_HEADWAY.false, lt-leb _ _ c.if-headway-gt-MAX_HEADWAY.true)

pub returns : goal.returns
unfolding volume_check
returns c =
    simp (le-leb _ _ c.if-outbound-gt-MAX_VOLUME.false, le-leb _ _ c.if-inbound-gt-MAX_VOLUME.false, le-leb _ _ c.if-headway-lt-MIN_HEADWAY.false, le-leb _ _ c.if-headway-gt-MAX_HEADWAY.false)
