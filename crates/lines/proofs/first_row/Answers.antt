-- Each part of the line leaves a rest of what it was read from.
use Rattle.lines.proofs.Rests.{rest_is, rest_trans}
use Rattle.lines.proofs.first_row.Goals as goal

pub returns-clause-rest : goal.returns-clause-rest
returns-clause-rest c =
    rest_trans c.in_ok-kind.ensures.rest (rest_trans c.in_ok-position.ensures.rest (rest_trans c.in_ok-outbound.ensures.rest
    (rest_trans c.in_ok-inbound.ensures.rest (rest_trans c.in_ok-red.ensures.rest (rest_is _ _ 1 c.in_ok-below.ensures.cases.1)))))
