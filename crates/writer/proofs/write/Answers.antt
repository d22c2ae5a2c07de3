-- `write` meets its contract: a street that is refused leaves the list, and one that passed has its text made in a buffer with room for it and handed over.
use Rattle.std.proofs.Common.{rules, ◌≡◌, sym, ap, ◌∙◌, Err}
use Rattle.street.specs.Lists.{signals}
use Rattle.writer.proofs.Replies.{street_refused, sheet_handed, text_made}
use Rattle.writer.proofs.write.Goals as goal

pub returns-in_err-judged : goal.returns-in_err-judged
returns-in_err-judged c =
    let refused : c.from_residual.result ≡ Err c.in_err-judged.field-0.0 = search rules in
    street_refused (ap signals c.street.view_is) (sym c.judged.ensures ∙ c.in_err-judged.was) refused

pub returns : goal.returns
returns c =
    sheet_handed (ap signals c.street.view_is) (sym c.judged.ensures ∙ c.in_ok-judged.was) (text_made c.sections-count.ensures) c.handed.ensures.reply
    c.handed.ensures.after
