-- `street::checks::room` meets its contract: the test decides the definition.
use borrow.Author.Tests.{le-leb, lt-leb}
use Rattle.street.specs.Checks.{room_check}
use Rattle.street.proofs.checks.room.Goals as goal

pub returns-then-lent-signals : goal.returns-then-lent-signals
unfolding room_check
returns-then-lent-signals c = simp (c.refused.ensures, lt-leb _ _ c.if-lent-signals.true)

pub returns : goal.returns
unfolding room_check
returns c = simp (le-leb _ _ c.if-lent-signals.false)
