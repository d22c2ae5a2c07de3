-- `survey::typed` meets its contract. The loop's invariant is `SoFar`, of the link at which it stands.
use Rattle.survey.specs.Typing.{in_rows}
use Rattle.survey.proofs.Filled.{SoFar}
use Rattle.survey.proofs.typed.Given as goal

abbrev pub invariant-loop-link : goal.invariant-loop-link
invariant-loop-link l = SoFar (in_rows l.rows) l.link l.before l.reds l.distances l.outbound l.inbound
