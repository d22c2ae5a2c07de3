-- The platoon rule beside the one that the paper prints (02, 2026-02): where they differ, and both widths there. Assumes nothing.
use Prim.Native.Nat.{ℕ, ◌+◌, ◌-◌, ◌*◌, ◌/◌, ◌≤◌, min}
use mathlib.Core.Path.{◌≡◌, sym, ap, ◌∙◌}
use mathlib.Core.Bool.{Bool, true, false, cond}
use native.Mathlib.Omega.{arith}
use native.Mathlib.Decide.{dec_le, ℕ_discrete}
use native.Mathlib.Nat.{le_of_mul-le-mul_left, mul-div_cancel, le-div_iff_mul-le}
use lib.IntN.{pos, ◌+ℤ◌}
use lib.Dec.{leb, eqb}
use borrow.Author.Tests.{le-leb, lt-leb, leb-true, leb-false}
use Rattle.circle.specs.Signed.{leℤ, or_zero}
use Rattle.circle.specs.Method.{Timed, halves, B}
use Rattle.circle.specs.Moved.{g, other_width, found_width, platoon_width}
use Rattle.circle.proofs.Numbers.Signed.{sub_pos}
use Rattle.circle.proofs.Formulas.Raised.{Fit, B⁺}
use Rattle.circle.proofs.Formulas.Moving.{green, g_is, double, other_width_lem}
use Rattle.circle.proofs.Formulas.Platoons.{platoons_none, platoons_some, found_le, found_fit, twice_test, g_test, g_own}

-- the rule as the paper prints it: where T is at most 2B, 2BL/T rounded down, at most g; where T is above 2B, the smaller of L and g, and g where that leaves the lesser side 0
unfoldable pub paper_width : Timed → ℕ → ℕ → ℕ
paper_width s L T =
    cond (leℤ (pos T) (B s +ℤ B s))
    (min (or_zero (B s +ℤ B s) * L / T) (or_zero (g s)))
    (cond (eqb (other_width s (min L (or_zero (g s)))) 0) (or_zero (g s)) (min L (or_zero (g s))))

-- so it stops at the width found where T is at most 2B
paper_is : (s : Timed) (L T : ℕ) (t : Bool) → leℤ (pos T) (B s +ℤ B s) ≡ t → paper_width s L T ≡ cond t (found_width s L T) (platoon_width s L T)
unfolding paper_width found_width platoon_width
paper_is s L T true e = simp e
paper_is s L T false e = simp e

-- the lesser platoon is 0, the larger at most 2B, and 2B below g
abbrev pub Amended : Timed → ℕ → ℕ → Type 0
Amended s L T = (L ≡ T) × (leℤ (pos T) (B s +ℤ B s) ≡ true) × (leℤ (g s) (B s +ℤ B s) ≡ false)

module _ (s : Timed) (fit : Fit s) (L T : ℕ) (some : 1 ≤ T) where
  -- there the paper has 2B
  pub amended_there : Amended s L T → (pos (paper_width s L T) ≡ B s +ℤ B s) × (pos (platoon_width s L T) ≡ g s)
  amended_there (same, fits, below) =
      let H = 2 * halves s in
      let D = 2 * B⁺ s - H in
      let l = leb-true (T + H) (2 * B⁺ s) (sym (twice_test s fit T) ∙ fits) in
      let k = leb-false (green s + H) (2 * B⁺ s) (sym (g_test s fit) ∙ below) in
      let all : D * L / T ≡ D = ap (λ (z : ℕ). D * z / T) same ∙ mul-div_cancel D some in
      let is : found_width s L T ≡ D = omega (arith, found_fit s fit L T l) in (
        ap pos (paper_is s L T true fits ∙ is) ∙ sym (sub_pos (2 * B⁺ s) H (omega arith)) ∙ sym (double s fit),
        ap pos (platoons_none s L T (omega (arith, other_width_lem s fit (found_width s L T)))) ∙ g_own s fit,
      )

  -- and nowhere else do the two rules differ
  pub amended_only : L ≤ T → (platoon_width s L T ≡ paper_width s L T → ⊥) → Amended s L T
  amended_only part differ =
      go (dec_le (T + 2 * halves s) (2 * B⁺ s)) (ℕ_discrete (other_width s (found_width s L T)) 0) (dec_le (green s + 2 * halves s) (2 * B⁺ s))
    where
      paper : (t : Bool) → leb (T + 2 * halves s) (2 * B⁺ s) ≡ t → cond t (found_width s L T) (platoon_width s L T) ≡ paper_width s L T
      paper t e = sym (paper_is s L T t (twice_test s fit T ∙ e))

      go : Dec (T + 2 * halves s ≤ 2 * B⁺ s) → Dec (other_width s (found_width s L T) ≡ 0) → Dec (green s + 2 * halves s ≤ 2 * B⁺ s) → Amended s L T
      go (no more) d d' = absurd (differ (paper false (lt-leb (T + 2 * halves s) (2 * B⁺ s) (omega arith))))
      go (yes fits) (no left) d' = absurd (differ (platoons_some s L T left ∙ paper true (le-leb (T + 2 * halves s) (2 * B⁺ s) fits)))
      go (yes fits) (yes none) (yes short) =
          let e : or_zero (g s) ≡ found_width s L T = omega (arith, ap or_zero (g_is s fit), found_le s L T, other_width_lem s fit (found_width s L T)) in
          absurd (differ (platoons_none s L T none ∙ e ∙ paper true (le-leb (T + 2 * halves s) (2 * B⁺ s) fits)))
      go (yes fits) (yes none) (no below) =
          let D = 2 * B⁺ s - 2 * halves s in
          let whole : D ≤ D * L / T = omega (arith, found_fit s fit L T fits, other_width_lem s fit (found_width s L T)) in
          let all : T ≤ L = le_of_mul-le-mul_left ((le-div_iff_mul-le {k = T} {x = D} {y = D * L} some).0 whole) (omega arith) in (
            omega arith,
            twice_test s fit T ∙ le-leb (T + 2 * halves s) (2 * B⁺ s) fits,
            g_test s fit ∙ lt-leb (green s + 2 * halves s) (2 * B⁺ s) (omega arith),
          )
