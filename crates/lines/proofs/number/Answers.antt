-- What stands behind the space is a rest, and what the digits leave is one of that.
use Rattle.lines.proofs.Rests.{rest_is, some_rest}
use Rattle.lines.proofs.number.Goals as goal

pub returns-clause-rest : goal.returns-clause-rest
returns-clause-rest c =
    some_rest (λ r. r.1.now) c.digits.result (rest_is _ _ 1 c.in_ok-strip_prefix.ensures.cases.1) c.digits.ensures.rest
