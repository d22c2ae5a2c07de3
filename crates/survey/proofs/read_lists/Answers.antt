-- `survey::read_lists` meets its contract: the lengths are judged, then the count, and the rows that are gathered are those of the lists.
use Rattle.std.specs.Prelude.{ℕ, List, Err, ◌≤◌, length, take}
use mathlib.Core.Path.{◌≡◌, sym, ap, ◌∙◌}
use native.Mathlib.Omega.{arith}
use borrow.Author.Rules.{rules}
use lib.Seq.{length-take-le}
use Rattle.std.proofs.lemmas.List.{get_or-take}
use Rattle.survey.specs.declared.Row.{Row}
use Rattle.survey.specs.Typing.{in_rows}
use Rattle.survey.specs.Steps.{rows_reading}
use Rattle.survey.proofs.TypingLaws.{row_range, even_lists, lists_miscounted, counted_read}
use Rattle.survey.proofs.read_lists.Goals as goal

-- the rows that are lent are as many as are counted
part : (n : ℕ) (rows : List Row) → n ≤ length rows → n ≡ length (take n rows)
part n rows l = sym (length-take-le n rows l)

pub returns-in_err-row_count : goal.returns-in_err-row_count
returns-in_err-row_count c =
    let a = c.args in
    let refusal : c.from_residual-in_err-row_count.result ≡ Err c.in_err-row_count.field-0.0 = search rules in
    refusal ∙ lists_miscounted a.cycle a.kinds.now a.positions.now a.outbound.now a.inbound.now a.reds.now _ (sym c.lengths.ensures ∙ c.in_ok-lengths.was) (sym c.row_count.ensures ∙ c.in_err-row_count.was)

pub gathered-rows-requires : goal.gathered-rows-requires
gathered-rows-requires c =
    let even = even_lists _ _ _ _ _ (sym c.lengths.ensures ∙ c.in_ok-lengths.was) in
    ((row_range _ (sym c.row_count.ensures ∙ c.in_ok-row_count.was)).high, even.kinds_too, even.positions_too, even.outbound_too, even.inbound_too)

pub slice_bounds-rows-end : goal.slice_bounds-rows-end
slice_bounds-rows-end c =
    let range = row_range _ (sym c.row_count.ensures ∙ c.in_ok-row_count.was) in
    omega (arith, c.gathered-rows.ensures.room, range.high)

pub slice_bounds-typed-end : goal.slice_bounds-typed-end
slice_bounds-typed-end c =
    let range = row_range _ (sym c.row_count.ensures ∙ c.in_ok-row_count.was) in
    part _ c.gathered-rows.result (omega (arith, c.gathered-rows.ensures.room, range.high))

pub typed-requires : goal.typed-requires
typed-requires c =
    let range = row_range _ (sym c.row_count.ensures ∙ c.in_ok-row_count.was) in
    let many = part (length c.args.reds.now) c.gathered-rows.result (omega (arith, c.gathered-rows.ensures.room, range.high)) in
    (omega (arith, many, range.low), omega (arith, many, range.high))

pub returns : goal.returns
returns c =
    let a = c.args in
    let counted = sym c.row_count.ensures ∙ c.in_ok-row_count.was in
    let range = row_range _ counted in
    let rows = c.gathered-rows.result in
    let n = length a.reds.now in
    let many = part n rows (omega (arith, c.gathered-rows.ensures.room, range.high)) in
    c.typed.ensures
    ∙ ap (λ (k : ℕ). rows_reading a.cycle k (in_rows (take n rows))) (sym many)
    ∙ counted_read a.cycle a.kinds.now a.positions.now a.outbound.now a.inbound.now a.reds.now (sym c.lengths.ensures ∙ c.in_ok-lengths.was) counted (in_rows (take n rows)) (λ j l. get_or-take n rows j _ l ∙ c.gathered-rows.ensures.rows j l)
