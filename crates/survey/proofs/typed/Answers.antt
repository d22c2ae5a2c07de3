use mathlib.Core.Path.{◌≡◌, sym, ap, ◌∙◌}
use native.Mathlib.Omega.{arith}
use borrow.Author.Rules.{rules}
use borrow.Author.Count.{below_none}
use Rattle.std.specs.Prelude.{◌+◌, Some, None, Err}
use Rattle.survey.specs.Typing.{in_rows}
use Rattle.survey.proofs.RowLaws.{first_bad, following_bad}
use Rattle.survey.proofs.Filled.{so_far-first, so_far-more}
use Rattle.survey.proofs.TypingLaws.{row_refused, all_typed}
use Rattle.survey.proofs.typed.Goals as goal

pub returns-in_err-start : goal.returns-in_err-start
returns-in_err-start c =
    let row = in_rows c.args.rows.now in
    let none : c.first.result ≡ None = grind arith in
    let is : c.from_residual.result ≡ Err c.bad.result = grind arith in
    is ∙ ap Err c.bad.ensures ∙ row_refused c.args.cycle _ row 0 (omega arith) (below_none _) (first_bad row (sym c.first.ensures.value ∙ none))

pub loop-link-init : goal.loop-link-init
loop-link-init c =
    let some : c.first.result ≡ Some c.in_ok-start.start = grind arith in
    rw c.thousandths.ensures (so_far-first (in_rows c.args.rows.now) c.in_ok-start.start (search rules) (sym c.first.ensures.value ∙ some))

pub returns-in_err-read : goal.returns-in_err-read
returns-in_err-read c =
    let row = in_rows c.args.rows.now in
    let at = c.loop-link in
    let none : c.judge.result ≡ None = grind arith in
    let is : c.from_residual-in_err-read.result ≡ Err c.bad-in-loop-link.result = grind arith in
    is
    ∙ ap Err c.bad-in-loop-link.ensures
    ∙ row_refused c.args.cycle _ row (at.link + 1) (omega arith) at.invariant.good (following_bad row at.link at.before at.invariant.is (sym c.judge.ensures.value ∙ none))

pub loop-link-preserved : goal.loop-link-preserved
loop-link-preserved c =
    let at = c.loop-link in
    let some : c.judge.result ≡ Some c.in_ok-read.read = grind arith in
    rw (c.thousandths-in-loop-link.ensures, c.thousandths-in-loop-link-2.ensures, c.thousandths-in-loop-link-3.ensures)
    (so_far-more (in_rows c.args.rows.now) at.link at.before at.reds at.distances at.outbound at.inbound c.in_ok-read.read at.invariant (omega arith) (search rules) (sym c.judge.ensures.value ∙ some))

pub returns : goal.returns
returns c =
    let at = c.loop-link in
    all_typed c.args.cycle _ at.link at.before (in_rows c.args.rows.now) at.reds at.distances at.outbound at.inbound at.invariant (omega arith)
