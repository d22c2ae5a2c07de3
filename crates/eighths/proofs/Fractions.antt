-- Fractions n / d of natural numbers. Of two that are equal one is whole where the other is, and a bound of one is a bound of the other. Assumes nothing.
use Prim.Native.Nat.{ℕ, ◌+◌, ◌*◌, ◌/◌, ◌%◌, ◌≤◌, ◌<◌}
use mathlib.Core.Path.{◌≡◌, sym, ap, ◌∙◌}
use native.Mathlib.Nat.{add-zero, mul_right_comm, mul-mod_left, mul-le-mul_right, le_of_mul-le-mul_right, eq_of_mul-eq-mul_right, div-add-mod'}
use native.Mathlib.Omega.{arith}

-- a whole fraction is its whole part
pub no_rest : (n d : ℕ) → n % d ≡ 0 → n ≡ n / d * d
no_rest n d h = sym (div-add-mod' n d) ∙ ap (λ (z : ℕ). n / d * d + z) h ∙ add-zero (n / d * d)

-- n / d is a / c
module _ (n d a c : ℕ) (D : 0 < d) (same : n * c ≡ a * d) where
  pub whole_too : n % d ≡ 0 → a % c ≡ 0
  whole_too h =
      let e : a * d ≡ n / d * c * d = sym same ∙ ap (λ (z : ℕ). z * c) (no_rest n d h) ∙ mul_right_comm (n / d) d c in
      ap (λ (z : ℕ). z % c) (eq_of_mul-eq-mul_right d D a (n / d * c) e) ∙ mul-mod_left (n / d) c

  -- at least 1 / k, and at most p
  pub at_least : (k : ℕ) → d ≤ k * n → c ≤ k * a
  at_least k h = le_of_mul-le-mul_right (omega (arith, mul-le-mul_right c h, ap (λ (z : ℕ). k * z) same)) D

  pub at_most : (p : ℕ) → n ≤ p * d → a ≤ p * c
  at_most p h = le_of_mul-le-mul_right (omega (arith, mul-le-mul_right c h)) D
