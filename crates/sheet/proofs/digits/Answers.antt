-- A further digit goes on with the number, and any byte that is neither one nor the byte that has to end it spoils it.
use Rattle.std.proofs.Common.{ℕ, ◌≡◌, ◌≤◌, ◌<◌, ◌+◌, ◌-◌, ◌*◌, ◌⊎◌, inl, inr, List, ◌∷◌, Bool, true, false, None, sym, ap, ◌∙◌, refl, cond}
use native.Mathlib.Omega.{arith}
use native.Mathlib.Decide.{dec_le}
use borrow.Author.Tests.{ne_eqb, le-leb, lt-leb}
use Rattle.street.specs.Checks.{within}
use Rattle.sheet.specs.Steps.Numbers.{digit_of, more}
use Rattle.sheet.proofs.digits.Goals.{in_default-byte-via-in-32+else-end-eq-SPACE, in_default-byte-via-in-10+else-end-eq-LINE_END, in_default-byte-via-in_default+then-byte-lt48, in_default-byte-via-in_default+else-byte-lt48+else-byte-lt58}
use Rattle.sheet.proofs.digits.Goals as goal

goes_on : (end value b : ℕ) (rest : List ℕ) → (b ≡ end → ⊥) → 48 ≤ b → b ≤ 57 → 1 ≤ value → value ≤ 9999999 → more end (10 * value + (b - 48)) rest ≡ more end value (b ∷ rest)
unfolding more digit_of
goes_on end value b rest other low high some few = simp (ne_eqb b end other, le-leb 48 b low, le-leb b 57 high, le-leb 1 value some, le-leb value 9999999 few)

-- a byte that is no digit
no_digit : (b : ℕ) → (48 ≤ b → b ≤ 57 → ⊥) → digit_of b ≡ None
unfolding digit_of
no_digit b out = go (dec_le 48 b)
  where
    go : Dec (48 ≤ b) → digit_of b ≡ None
    go (yes l) = let h : 57 < b = omega (arith, out l) in simp (le-leb 48 b l, lt-leb b 57 h)
    go (no n) = let h : b < 48 = omega arith in simp (lt-leb 48 b h)

-- the test of a value does not matter to a byte that is no digit
either : {A : Type 0} (t : Bool) (x : A) → cond t x x ≡ x
either true x = refl
either false x = refl

stops : (end value b : ℕ) (rest : List ℕ) → (b ≡ end → ⊥) → (48 ≤ b → b ≤ 57 → ⊥) → None ≡ more end value (b ∷ rest)
unfolding more
stops end value b rest other out = sym (simp (ne_eqb b end other, no_digit b out) (either (within 1 9999999 value) None))

-- a digit is neither a space nor a line end
apart : (b end : ℕ) → (end ≡ 32) ⊎ (end ≡ 10) → 48 ≤ b → b ≡ end → ⊥
apart b end (inl e) l same = omega arith
apart b end (inr e) l same = omega arith

-- and what is none of the two is not the one that has to end the number
not_end : (b end : ℕ) → (end ≡ 32) ⊎ (end ≡ 10) → (b ≡ 32 → ⊥) → (b ≡ 10 → ⊥) → b ≡ end → ⊥
not_end b end (inl e) space line same = space (same ∙ e)
not_end b end (inr e) space line same = line (same ∙ e)

pub loop-byte-preserved : goal.loop-byte-preserved
loop-byte-preserved c =
    let b = c.in-Some.byte.now in
    let end = c.args.end in
    let low : 48 ≤ b = omega arith in
    let some : 1 ≤ c.loop-byte.value = omega arith in
    record {
      same =
          goes_on end c.loop-byte.value b c.in-Some.behind.now (apart b end c.requires low) low (omega arith) some (omega arith)
          ∙ ap (more end c.loop-byte.value) (sym c.in-Some.ensures.cases.0)
          ∙ c.loop-byte.invariant.same;
    }

pub returns-in_default-byte : goal.returns-in_default-byte
returns-in_default-byte c =
    let b = c.in-Some.byte.now in
    let end = c.args.end in
    let facts : (b ≡ end → ⊥) × (48 ≤ b → b ≤ 57 → ⊥) =
    elim c.in_default-byte.branch [
      | in_default-byte-via-in-32+else-end-eq-SPACE w ↦ (λ e. omega arith, λ l h. omega arith)
      | in_default-byte-via-in-10+else-end-eq-LINE_END w ↦ (λ e. omega arith, λ l h. omega arith)
      | in_default-byte-via-in_default+then-byte-lt48 w ↦ (not_end b end c.requires (λ e. omega arith) (λ e. omega arith), λ l h. omega arith)
      | in_default-byte-via-in_default+else-byte-lt48+else-byte-lt58 w ↦ (not_end b end c.requires (λ e. omega arith) (λ e. omega arith), λ l h. omega arith)
    ] in
    stops end c.loop-byte.value b c.in-Some.behind.now facts.0 facts.1 ∙ ap (more end c.loop-byte.value) (sym c.in-Some.ensures.cases.0) ∙ c.loop-byte.invariant.same
