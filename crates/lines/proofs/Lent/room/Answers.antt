-- Each part of the line leaves a rest of what it was read from.
use Rattle.lines.proofs.Rests.{rest_is, rest_trans}
use Rattle.lines.proofs.Lent.room.Goals as goal

pub returns-clause-rest : goal.returns-clause-rest
returns-clause-rest c = rest_trans (rest_is _ _ 6 c.in-Some.ensures.cases.1) c.in_ok-number.ensures.rest
