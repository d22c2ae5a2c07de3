-- The platoon rule always asks for a width in range. B is at most g, and g is at least 1, so g itself is in range. Where both platoons fit into 2B, the larger one's share is
-- at least B, as it is at least half of their sum, and what the rule finds is at most g. Where they do not, the larger platoon is at least B, being at least half of a
-- sum above 2B. And whatever it gives, the lesser side is left 0 only beside g; so it gives g wherever B is 0 or less. Assumes nothing.
use Prim.Native.Nat.{ℕ, ◌+◌, ◌-◌, ◌*◌, ◌/◌, ◌≤◌, ◌<◌, min}
use mathlib.Core.Path.{◌≡◌, refl, sym, ap, ap₂, subst, ◌∙◌}
use mathlib.Core.Bool.{true, cond}
use native.Mathlib.Omega.{arith}
use native.Mathlib.Decide.{dec_le, ℕ_discrete}
use native.Mathlib.Nat.{mul-le-mul_left, le-div_iff_mul-le}
use lib.IntN.{pos, ◌+ℤ◌}
use lib.Dec.{leb}
use borrow.Author.Tests.{le-leb, lt-leb, leb-true, eq-eqb, ne_eqb}
use Rattle.circle.specs.Signed.{leℤ, or_zero}
use Rattle.circle.specs.Method.{Timed, halves, B}
use Rattle.circle.specs.Moved.{g, in_range, other_width, found_width, platoon_width}
use Rattle.circle.proofs.Numbers.Signed.{le_sub, or_zero_sub}
use Rattle.circle.proofs.Formulas.Raised.{Fit, B_raised, B⁺}
use Rattle.circle.proofs.Formulas.Moving.{green, raise, within, green_some, B_green, g_is, double, other_width_lem}

-- a share of twice b, for at least half of the sum, is at least b
share : (b D L T : ℕ) → D ≡ 2 * b → 0 < T → T ≤ 2 * L → b ≤ D * L / T
share b D L T two some half =
    let l : b * T ≤ b * (2 * L) = mul-le-mul_left b half in
    let e : D * L ≡ 2 * b * L = ap (λ (z : ℕ). z * L) two in
    (le-div_iff_mul-le {k = T} {x = b} {y = D * L} some).1 (omega arith)

-- the rule's two outcomes: the width found leaves the lesser side 0, and it leaves something
module _ (s : Timed) (L T : ℕ) where
  pub platoons_none : other_width s (found_width s L T) ≡ 0 → platoon_width s L T ≡ or_zero (g s)
  unfolding platoon_width
  platoons_none none = ap (λ t. cond t (or_zero (g s)) (found_width s L T)) (eq-eqb (other_width s (found_width s L T)) 0 none)

  pub platoons_some : (other_width s (found_width s L T) ≡ 0 → ⊥) → platoon_width s L T ≡ found_width s L T
  unfolding platoon_width
  platoons_some some = ap (λ t. cond t (or_zero (g s)) (found_width s L T)) (ne_eqb (other_width s (found_width s L T)) 0 some)

  -- so what holds of g there, and of the width found else, holds of what the rule gives
  given : (C : ℕ → Type 0) → (other_width s (found_width s L T) ≡ 0 → C (or_zero (g s))) → ((other_width s (found_width s L T) ≡ 0 → ⊥) → C (found_width s L T)) → C (platoon_width s L T)
  given C of-g of-found = go (ℕ_discrete (other_width s (found_width s L T)) 0)
    where
      go : Dec (other_width s (found_width s L T) ≡ 0) → C (platoon_width s L T)
      go (yes none) = subst C (sym (platoons_none none)) (of-g none)
      go (no some) = subst C (sym (platoons_some some)) (of-found some)

  -- no width of the rule is above g
  pub found_le : found_width s L T ≤ or_zero (g s)
  unfolding found_width
  found_le = omega arith

  pub platoon_le : platoon_width s L T ≤ or_zero (g s)
  platoon_le = given (λ w. w ≤ or_zero (g s)) (λ none. omega arith) (λ some. found_le)

  -- the lesser side is left 0 only beside g
  lesser_none : other_width s (platoon_width s L T) ≡ 0 → platoon_width s L T ≡ or_zero (g s)
  lesser_none = given (λ w. other_width s w ≡ 0 → w ≡ or_zero (g s)) (λ none left. refl) (λ some left. absurd (some left))

module _ (s : Timed) (fit : Fit s) where
  -- a number, and g, against 2B
  pub twice_test : (a : ℕ) → leℤ (pos a) (B s +ℤ B s) ≡ leb (a + 2 * halves s) (2 * B⁺ s)
  twice_test a = ap₂ leℤ (raise a (2 * halves s)) (double s fit) ∙ le_sub (a + 2 * halves s) (2 * B⁺ s) (2 * halves s)

  pub g_test : leℤ (g s) (B s +ℤ B s) ≡ leb (green s + 2 * halves s) (2 * B⁺ s)
  g_test = ap (λ x. leℤ x (B s +ℤ B s)) (g_is s fit) ∙ twice_test (green s)

  -- the width found, in naturals
  rule : (L T : ℕ) → found_width s L T ≡ min (cond (leb (T + 2 * halves s) (2 * B⁺ s)) ((2 * B⁺ s - 2 * halves s) * L / T) L) (green s)
  unfolding found_width
  rule L T =
      let H = 2 * halves s in
      ap₂ (λ p (d : ℕ). min (cond p (d * L / T) L) (or_zero (g s)))
      (twice_test T)
      (ap or_zero (double s fit) ∙ or_zero_sub (2 * B⁺ s) H)
      ∙ ap (λ (r : ℕ). min (cond (leb (T + H) (2 * B⁺ s)) ((2 * B⁺ s - H) * L / T) L) r) (ap or_zero (g_is s fit))

  -- where the platoons fit into 2B, and where they do not
  pub found_fit : (L T : ℕ) → T + 2 * halves s ≤ 2 * B⁺ s → found_width s L T ≡ min ((2 * B⁺ s - 2 * halves s) * L / T) (green s)
  found_fit L T fits =
      rule L T
      ∙ ap (λ p. min (cond p ((2 * B⁺ s - 2 * halves s) * L / T) L) (green s)) (le-leb (T + 2 * halves s) (2 * B⁺ s) fits)

  pub found-past : (L T : ℕ) → 2 * B⁺ s < T + 2 * halves s → found_width s L T ≡ min L (green s)
  found-past L T more =
      rule L T
      ∙ ap (λ p. min (cond p ((2 * B⁺ s - 2 * halves s) * L / T) L) (green s)) (lt-leb (T + 2 * halves s) (2 * B⁺ s) more)

  -- the rule's width, for a larger platoon L of a sum T of two that differ
  pub platoons_range : (L T : ℕ) → L ≤ T → T < 2 * L → in_range s (platoon_width s L T) ≡ true
  platoons_range L T part larger =
      given s L T (λ w. in_range s w ≡ true)
      (λ none. ap (λ x. in_range s (or_zero x)) (g_is s fit) ∙ within s fit (green s) (green_some s fit) (B_green s fit) (omega arith))
      (λ some. found (dec_le (T + 2 * halves s) (2 * B⁺ s)))
    where
      found : Dec (T + 2 * halves s ≤ 2 * B⁺ s) → in_range s (found_width s L T) ≡ true
      found (yes fits) =
          let D = 2 * B⁺ s - 2 * halves s in
          let l = share (B⁺ s - halves s) D L T (omega arith) (omega arith) (omega arith) in
          ap (in_range s) (found_fit L T fits)
          ∙ within s fit (min (D * L / T) (green s)) (omega (arith, green_some s fit)) (omega (arith, B_green s fit)) (omega arith)
      found (no more) =
          ap (in_range s) (found-past L T (omega arith))
          ∙ within s fit (min L (green s)) (omega (arith, green_some s fit)) (omega (arith, B_green s fit)) (omega arith)

  pub g_own : pos (or_zero (g s)) ≡ g s
  g_own = ap (λ x. pos (or_zero x)) (g_is s fit) ∙ sym (g_is s fit)

  -- beside nothing for the lesser side it is g, and so it is where B is 0 or less
  pub platoons_alone : (L T : ℕ) → other_width s (platoon_width s L T) ≡ 0 → pos (platoon_width s L T) ≡ g s
  platoons_alone L T left = ap pos (lesser_none s L T left) ∙ g_own

  pub platoons_widest : (L T : ℕ) → leℤ (B s) (pos 0) ≡ true → pos (platoon_width s L T) ≡ g s
  platoons_widest L T none =
      let H = halves s in
      let l = leb-true (B⁺ s) (0 + H) (sym (ap₂ leℤ (B_raised s fit) (raise 0 H) ∙ le_sub (B⁺ s) (0 + H) H) ∙ none) in
      platoons_alone L T (omega (arith, other_width_lem s fit (platoon_width s L T)))
