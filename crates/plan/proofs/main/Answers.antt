-- The bytes that go out are the text that answers the bytes beside them.
use mathlib.Core.Path.{sym, subst}
use Rattle.road.specs.Limits.{max_signals}
use Rattle.printed.specs.Way.{Answers}
use Rattle.printed.proofs.Ways.{text_within, sent}
use Rattle.plan.proofs.main.Goals as goal

pub text-requires : goal.text-requires
text-requires c = text_within c.equal_text-answer.ensures.prints

pub send-requires : goal.send-requires
send-requires c = subst (Answers _ max_signals) (sym c.text.ensures) (sent c.equal_text-answer.ensures)
