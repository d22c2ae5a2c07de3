-- `survey::read` meets its contract: the count is judged first, and rows of which there are as many as there may be are judged in their order.
use mathlib.Core.Path.{◌≡◌, sym, ◌∙◌}
use borrow.Author.Rules.{rules}
use Rattle.std.specs.Prelude.{Err}
use Rattle.survey.specs.Typing.{in_rows}
use Rattle.survey.proofs.TypingLaws.{row_range, miscounted, well_counted}
use Rattle.survey.proofs.read.Goals as goal

pub returns-in_err-row_count : goal.returns-in_err-row_count
returns-in_err-row_count c =
    let refusal : c.from_residual.result ≡ Err c.in_err-row_count.field-0.0 = search rules in
    refusal ∙ miscounted c.args.cycle _ (in_rows c.args.rows.now) _ (sym c.row_count.ensures ∙ c.in_err-row_count.was)

pub typed-requires : goal.typed-requires
typed-requires c = let range = row_range _ (sym c.row_count.ensures ∙ c.in_ok-row_count.was) in (range.low, range.high)

pub returns : goal.returns
returns c = c.typed.ensures ∙ well_counted c.args.cycle _ (in_rows c.args.rows.now) (sym c.row_count.ensures ∙ c.in_ok-row_count.was)
