-- `planned` meets its contract: the text of the answer and of the first entries that the array holds is the plan's.
use borrow.Author.Rules.{rules}
use native.Mathlib.Omega.{arith}
use mathlib.Core.Path.{◌≡◌, sym, ap, ◌∙◌}
use lib.ListN.{length}
use lib.Seq.{length-take-le}
use Rattle.road.specs.Limits.{max_signals}
use Rattle.printed.specs.Text.{printed_of}
use Rattle.printed.proofs.Ways.{planned_text}
use Rattle.printed.proofs.planned.Goals as goal

pub returns : goal.returns
returns c =
    let s = c.args.sheet.now in
    let long : length s.reds ≡ max_signals = search rules in
    let own = sym (length-take-le s.signals s.reds (omega arith)) in
    let text = planned_text c.args.room _ c.lists.ensures c.lent.ensures own c.requires.few c.plan_for-answer.ensures in
    record { reply = c.answer_text.ensures.reply ∙ ap printed_of text }
