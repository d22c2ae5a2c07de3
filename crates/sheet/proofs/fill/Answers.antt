-- `fill` meets its contract: what `parse` found is the reading of the bytes, and beside a refusal it does not matter what it left.
use mathlib.Core.Path.{◌≡◌, refl, sym, ◌∙◌}
use native.Mathlib.Omega.{arith}
use Rattle.std.specs.Prelude.{Ok, Err, MatchResult, true}
use Rattle.std.specs.Result.{is_err}
use Rattle.street.specs.Verdicts.{Verdict, answered}
use Rattle.sheet.specs.Reading.{Reading, no_sheet, sheet_beside}
use Rattle.sheet.specs.declared.Sheet.{Sheet}
use Rattle.sheet.proofs.ByForm.{reads}
use Rattle.sheet.proofs.fill.Goals as goal

found : (m : Reading) (v : Verdict) (s : Sheet) → MatchResult v (λ _. m ≡ Ok s) (λ f. m ≡ Err f) → answered v s ≡ m
found m (Ok u) s h = sym h
found m (Err f) s h = sym h

-- beside a refusal, whatever stands there; and what has to stand there
refused : (v : Verdict) (s x : Sheet) → is_err v ≡ true → answered v x ≡ answered v s
refused (Ok u) s x h = absurd (grind arith)
refused (Err f) s x h = refl

zeros : (v : Verdict) (x : Sheet) → is_err v ≡ true → no_sheet ≡ sheet_beside (answered v x)
zeros (Ok u) x h = absurd (grind arith)
zeros (Err f) x h = refl

pub returns-then-is_err-clause-reading : goal.returns-then-is_err-clause-reading
returns-then-is_err-clause-reading c =
    let v = c.parse-verdict.result in
    let s = c.parse-verdict.new.sheet in
    reads (refused v s _ (sym c.if-is_err.ensures.value) ∙ found _ v s c.parse-verdict.ensures)

pub returns-then-is_err-clause-beside : goal.returns-then-is_err-clause-beside
returns-then-is_err-clause-beside c = zeros c.parse-verdict.result _ (sym c.if-is_err.ensures.value)

pub returns-else-is_err-clause-reading : goal.returns-else-is_err-clause-reading
returns-else-is_err-clause-reading c = reads (found _ c.parse-verdict.result c.parse-verdict.new.sheet c.parse-verdict.ensures)
