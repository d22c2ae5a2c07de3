-- What stands behind the space is a rest, and what stands behind the 16 digits is one of that.
use Rattle.lines.proofs.Rests.{rest_is, rest_trans}
use Rattle.lines.proofs.pattern.Goals as goal

pub returns-clause-rest : goal.returns-clause-rest
returns-clause-rest c =
    rest_trans (rest_is _ _ 1 c.in_ok-strip_prefix.ensures.cases.1) (rest_is _ _ 16 c.in_ok-digits.ensures.cases.1)
