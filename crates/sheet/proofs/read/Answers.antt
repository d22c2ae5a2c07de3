-- `read` meets its contract: what `parse` found is the reading of the bytes.
use mathlib.Core.Path.{sym, ap, ◌∙◌}
use Rattle.std.proofs.lemmas.Result.{err_from_is_err_and}
use Rattle.std.specs.Prelude.{Err}
use Rattle.sheet.proofs.ByForm.{reads}
use Rattle.sheet.proofs.read.Goals as goal

pub returns-in_err-parse : goal.returns-in_err-parse
returns-in_err-parse c =
    let p = err_from_is_err_and c.from_residual.result c.from_residual.ensures.1 in
    reads (p.1 ∙ ap Err p.2 ∙ sym c.in_err-parse.ensures)

pub returns : goal.returns
returns c = reads (sym c.in_ok-parse.ensures)
