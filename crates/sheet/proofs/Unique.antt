-- The contract of `read` determines its reply, and that of `fill` its reply and what it leaves in the lent sheet: they are parts of the reading of the
-- same bytes, and one of the form's three cases holds. Assumes nothing.
use Prim.Native.Nat.{ℕ}
use mathlib.Core.Path.{◌≡◌, sym, ap, ◌∙◌}
use mathlib.Core.List.{List}
use Rattle.street.specs.Verdicts.{Verdict, verdict_of, answered}
use Rattle.street.proofs.Sound.{answer_tells}
use Rattle.sheet.specs.declared.Sheet.{Sheet}
use Rattle.sheet.specs.Reading.{Reading, passing, refusing, sheet_beside, Reads}
use Rattle.sheet.proofs.ByForm.{same_by_form}

-- two replies that the contract of `read` allows for the same bytes are equal
pub read_unique : (bytes : List ℕ) (r r' : Reading) → Reads bytes r → Reads bytes r' → r ≡ r'
read_unique bytes r r' p q = same_by_form bytes passing refusing r r' p q

-- what the contract of `fill` allows: its reply, and what it leaves in the lent sheet
pub record Fills (bytes : List ℕ) (v : Verdict) (s : Sheet) : Type 0 where
  pub reading : Reads bytes (answered v s)
  pub beside : s ≡ sheet_beside (answered v s)

-- one reply, and one content of the lent sheet
pub record Same (v v' : Verdict) (s s' : Sheet) : Type 0 where
  pub reply : v ≡ v'
  pub sheet : s ≡ s'

-- the same of `fill`
pub fill_unique : (bytes : List ℕ) (v v' : Verdict) (s s' : Sheet) → Fills bytes v s → Fills bytes v' s' → Same v v' s s'
fill_unique bytes v v' s s' p q =
    let e : answered v s ≡ answered v' s' = read_unique bytes _ _ p.reading q.reading in
    record {
      reply = sym (answer_tells v s) ∙ ap verdict_of e ∙ answer_tells v' s';
      sheet = p.beside ∙ ap sheet_beside e ∙ sym q.beside;
    }
