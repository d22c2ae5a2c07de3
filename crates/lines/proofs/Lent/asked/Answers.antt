-- Each part of the line leaves a rest of what it was read from.
use Rattle.lines.proofs.Rests.{rest_is, rest_trans}
use Rattle.lines.proofs.Lent.asked.Goals as goal

pub returns-clause-below : goal.returns-clause-below
returns-clause-below c = rest_trans c.in_ok-room.ensures.rest (rest_is _ _ 1 c.in_ok-below.ensures.cases.1)
