-- `street::checks::count` meets its contract: each test that fails, after those before it passed, decides the definition.
use borrow.Author.Tests.{le-leb, lt-leb, eq-eqb, ne_eqb}
use Rattle.street.specs.Checks.{count_check}
use Rattle.street.proofs.checks.count.Goals as goal

pub returns-then-signals-lt-MIN_SIGNALS : goal.returns-then-signals-lt-MIN_SIGNALS
unfolding count_check
returns-then-signals-lt-MIN_SIGNALS c = simp (c.refused.ensures, lt-leb _ _ c.if-signals-lt-MIN_SIGNALS.true)

pub returns-then-signals-gt-MAX_SIGNALS : goal.returns-then-signals-gt-MAX_SIGNALS
unfolding count_check
returns-then-signals-gt-MAX_SIGNALS c = simp (c.refused-then-signals-gt-MAX_SIGNALS.ensures, le-leb _ _ c.if-signals-lt-MIN_SIGNALS.false, lt-leb _ _ c.if-signals-gt-MAX_SIGNALS.true)

pub returns-then-distances-signals : goal.returns-then-distances-signals
unfolding count_check
returns-then-distances-signals c = simp (c.refused-then-distances-signals.ensures, le-leb _ _ c.if-signals-lt-MIN_SIGNALS.false, le-leb _ _ c.if-signals-gt-MAX_SIGNALS.false, ne_eqb _ _ c.if-distances-signals.true)

pub returns-then-outbound-links : goal.returns-then-outbound-links
unfolding count_check
returns-then-outbound-links c = simp (c.refused-then-outbound-links.ensures, le-leb _ _ c.if-signals-lt-MIN_SIGNALS.false, le-leb _ _ c.if-signals-gt-MAX_SIGNALS.false, eq-eqb _ _ c.if-distances-signals.false, ne_eqb _ _ c.if-outbound-links.true)

pub returns-then-inbound-links : goal.returns-then-inbound-links
unfolding count_check
returns-then-inbound-links c = simp (c.refused-then-inbound-links.ensures, le-leb _ _ c.if-signals-lt-MIN_SIGNALS.false, le-leb _ _ c.if-signals-gt-MAX_SIGNALS.false, eq-eqb _ _ c.if-distances-signals.false, eq-eqb _ _ c.if-outbound-links.false, ne_eqb _ _ c.if-inbound-links.true)

pub returns : goal.returns
unfolding count_check
returns c = simp (le-leb _ _ c.if-signals-lt-MIN_SIGNALS.false, le-leb _ _ c.if-signals-gt-MAX_SIGNALS.false, eq-eqb _ _ c.if-distances-signals.false, eq-eqb _ _ c.if-outbound-links.false, eq-eqb _ _ c.if-inbound-links.false)
