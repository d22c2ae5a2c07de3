-- The number below 0: the sign's byte is one step, and the magnitude behind it the other. The check finds this alone; by hand, a refusal
-- shows which byte stands where the sign belongs.
use native.Mathlib.Omega.{arith}
use Rattle.std.proofs.Common.{ℕ, ◌+◌, ◌<◌, ◌≡◌, ◌∙◌, ap, refl, List, [], ◌∷◌, ◌++◌, length, set, add-one}
use mathlib.Core.Bool.{true}
use mathlib.Core.List.{append_assoc}
use lib.IntN.{ℤ, pos, negsuc, nat_abs}
use lib.Signed.{lt_z}
use lib.Seq.{set_split}
use mir.Syntax.{w32}
use mir.ValLaws.{to_z-of_z}
use borrow.Author.Tests.{ltb-true}
use Rattle.decimal.specs.Decimal.{decimal, signed_decimal}
use Rattle.decimal.specs.Steps.{Writes}
use Rattle.decimal.proofs.Writing.{writes_twice, writes_as}
use Rattle.decimal.proofs.write_signed.Goals as goal

-- a number below 0 is the sign and its magnitude
minus-text : (z : ℤ) → lt_z z (pos 0) ≡ true → 45 ∷ decimal (nat_abs z) ≡ signed_decimal z
minus-text (pos n) t = absurd (omega (arith, ltb-true n 0 t))
minus-text (negsuc n) t = refl

-- one store is a step
one_byte : (at b : ℕ) (l : List ℕ) → at < length l → Writes at (b ∷ []) l (set l at b) (at + 1)
one_byte at b l room = record { after = rw (append_assoc, add-one, set_split l at b room); next = refl }

pub returns-then-z-lt0 : goal.returns-then-z-lt0
returns-then-z-lt0 c =
    let a = c.args in
    let short = to_z-of_z w32 a.z c.ranges.z in
    let below : lt_z a.z (pos 0) ≡ true = rw short at c.if-z-lt0.true in
    let magnitude : c.unsigned_abs.result ≡ nat_abs a.z = c.unsigned_abs.ensures.value ∙ ap nat_abs short in
    let text : 45 ∷ (decimal c.unsigned_abs.result ++ a.end ∷ []) ≡ signed_decimal a.z ++ a.end ∷ [] = ap (λ (t : List ℕ). t ++ a.end ∷ []) (ap (λ (n : ℕ). 45 ∷ decimal n) magnitude ∙ minus-text a.z below) in
    let long = ap length text in
    writes_as text (writes_twice (omega arith) (one_byte a.at 45 a.bytes.now (omega arith)) c.write_ended.ensures)
