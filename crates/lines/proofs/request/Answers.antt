-- Each part of the line leaves a rest of what it was read from.
use Rattle.lines.proofs.Rests.{rest_is, rest_trans, some_rest}
use Rattle.lines.proofs.request.Goals as goal

pub returns-in_ok-below-in-measure-clause-below : goal.returns-in_ok-below-in-measure-clause-below
returns-in_ok-below-in-measure-clause-below c =
    rest_trans c.in_ok-word.ensures.rest (rest_trans c.numbers.ensures.rest (rest_is _ _ 1 c.in_ok-below-in-measure.ensures.cases.1))

pub returns-in_ok-request-in-seconds-clause-below : goal.returns-in_ok-request-in-seconds-clause-below
returns-in_ok-request-in-seconds-clause-below c =
    some_rest (λ a. a.below.now) c.asked-in-seconds.result
    (rest_trans c.in_ok-word.ensures.rest
    (rest_trans (rest_is _ _ 1 c.in_ok-strip_prefix-in-seconds.ensures.cases.1) c.in_ok-request-in-seconds.ensures.rest))
    c.asked-in-seconds.ensures.below
