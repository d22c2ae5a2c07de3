-- `section` meets its contract: the count and the lines are the definition's, and either's fault is.
use mathlib.Core.Path.{◌≡◌, sym}
use native.Mathlib.Omega.{arith}
use Rattle.std.proofs.lemmas.Result.{err_from_is_err_and}
use Rattle.std.specs.Prelude.{Some, None}
use Rattle.street.specs.declared.Code.TheVariants.{Sheet}
use Rattle.sheet.proofs.Sections.{past-counted, no_count, no_lines, in_arrays_lem}
use Rattle.sheet.proofs.section.Goals as goal

pub returns-in_err-count : goal.returns-in_err-count
returns-in_err-count c =
    let p = err_from_is_err_and c.from_residual.result c.from_residual.ensures.1 in
    rw (p.1, p.2) (no_count c.args.least c.args.most c.args.bytes.now _ (sym c.in_err-count.ensures))

pub columns-requires : goal.columns-requires
columns-requires c =
    let j = past-counted c.args.least c.args.most c.args.bytes.now _ _ (sym c.in_ok-count.ensures) in
    (omega (arith, j.high, c.requires.0), c.requires.1, c.requires.2)

pub returns-in_err-rest : goal.returns-in_err-rest
returns-in_err-rest c =
    let p = err_from_is_err_and c.from_residual-in_err-rest.result c.from_residual-in_err-rest.ensures.1 in
    let none : c.columns.result ≡ None = grind arith in
    let fault : c.in_err-rest.field-0.0 ≡ Sheet = grind arith in
    rw (p.1, p.2, fault) (no_lines c.args.least c.args.most c.args.bytes.now _ _ (sym c.in_ok-count.ensures) (rw none at c.columns.ensures))

pub returns : goal.returns
returns c =
    let some : c.columns.result ≡ Some c.in_ok-rest.rest = grind arith in
    in_arrays_lem c.args.least c.args.most c.args.bytes.now _ _ (sym c.in_ok-count.ensures) _ _ _ (rw some at c.columns.ensures)
