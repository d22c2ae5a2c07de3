-- Eight times a float from an eighth to 20,000 is a float again, with nothing rounded. It lies from 1 to 160,000, and it is whole exactly where the float is a whole
-- number of eighths. Assumes nothing.
use Prim.Native.Nat.{ℕ, zero, suc, ◌+◌, ◌*◌, ◌/◌, ◌%◌, ◌^◌, ◌≤◌, ◌<◌}
use mathlib.Core.Path.{◌≡◌, refl, sym, ap, ◌∙◌, subst}
use mathlib.Core.Bool.{Bool, true, false, cond, ◌&&◌}
use native.Mathlib.Nat.{lt_of_le_of_lt, mul-pos, mod-lt}
use native.Mathlib.Omega.{arith}
use borrow.Author.Tests.{eq-eqb, ne_eqb, le-leb}
use lib.IntN.{pos, negsuc}
use lib.Dec.{T, eqb, lit<}
use lib.Pow.{pow-add, pow_pos}
use lib.Ieee.{Float, nan, inf, fin, binary64, fits, mul, le, to_bits}
use lib.Ieee.Exact.{HasValue, round_exact}
use lib.Ieee.Nearest.{div_same}
use lib.Ieee.Order.{le_of_values}
use lib.Ieee.Positive.{num, den, positive, den_pos, own_value, value→cross, between, le→cross, mul_at}
use Rattle.std.specs.Prelude.{Option, Some, None}
use Rattle.eighths.specs.Readings.{whole_eighths, eighths_of}
use Rattle.eighths.specs.Steps.{least, most, whole_of}
use Rattle.eighths.proofs.Fractions.{whole_too, at_most}
use Rattle.eighths.proofs.Patterns.{digits, with_lead}

-- the floats 0.125, 8 and 20,000
abbrev pub eighth : Float
eighth = fin false 1 (negsuc 2)

abbrev pub eight : Float
eight = fin false 1 (pos 3)

abbrev pub largest : Float
largest = fin false 625 (pos 5)

-- ---- what a fraction comes to: equal ones to the same

abbrev comes_to : ℕ → ℕ → Option ℕ
comes_to n d = cond (eqb (n % d) 0) (Some (n / d)) None

same_test : (r s : ℕ) → (r ≡ 0 → s ≡ 0) → (s ≡ 0 → r ≡ 0) → eqb r 0 ≡ eqb s 0
same_test zero s f g = sym (eq-eqb s 0 (f refl))
same_test (suc r) s f g = ne_eqb (suc r) 0 (λ z. omega arith) ∙ sym (ne_eqb s 0 (λ z. omega (arith, g z)))

come_alike : (n d a c : ℕ) → 0 < d → 0 < c → n * c ≡ a * d → comes_to n d ≡ comes_to a c
come_alike n d a c D C e =
    ap (λ (b : Bool). cond b (Some (n / d)) None) (same_test (n % d) (a % c) (whole_too n d a c D e) (whole_too a c n d C (sym e)))
    ∙ ap (λ (k : ℕ). cond (eqb (a % c) 0) (Some k) None) (div_same n d a c D C e)

in_range_lem : (x : Float) → T (positive x) → num x ≤ 20000 * den x → eighths_of x ≡ comes_to (8 * num x) (den x)
unfolding eighths_of
in_range_lem nan p h = absurd p
in_range_lem (inf s) p h = absurd p
in_range_lem (fin true m e) p h = absurd p
in_range_lem (fin false m e) p h = let x = fin false m e in ap (λ (b : Bool). cond (b && whole_eighths x) (Some (8 * num x / den x)) None) (le-leb (num x) (20000 * den x) h)

-- ---- eight times x

eightfold : (q w l : ℕ) → q * w ≤ 20000 * l → q * (w * 8) ≤ 160000 * l
eightfold q w l h = omega arith

scaled : (n q w d l : ℕ) → n * l ≡ q * w * d → n * 8 * l ≡ q * (w * 8) * (d * 1)
scaled n q w d l h = omega arith

module _ (x : Float) (F : T (fits binary64 x)) (lo : T (le eighth x)) (hi : T (le x largest)) where
  p : T (positive x)
  p = between eighth x largest tt tt lo hi

  low : den x ≤ 8 * num x
  low = omega (arith, le→cross eighth x tt p lo)

  high : num x ≤ 20000 * den x
  high = omega (arith, le→cross x largest p tt hi)

  abbrev y : Float
  y = mul binary64 x eight

  one : 0 < den x * 1
  one = mul-pos (den_pos x) (lit< tt)

  value : HasValue y false (num x * 8) (den x * 1)
  value =
      let d = digits x F p low in
      let t = to_bits binary64 x % 2 ^ 52 in
      let q = 2 ^ 52 + t in
      let w = 2 ^ d.j in
      let most = at_most (num x) (den x) (q * w) (2 ^ 1074) (den_pos x) d.value 20000 high in
      subst (λ (z : Float). HasValue z false (num x * 8) (den x * 1)) (sym (mul_at binary64 x eight (num x) (den x) 8 1 p tt (den_pos x) (lit< tt) (own_value x p) (refl, refl)))
      (round_exact binary64 false (num x * 8) (den x * 1) q (d.j + 3) one (with_lead t (mod-lt (to_bits binary64 x) (pow_pos 52)))
      (subst (λ (k : ℕ). q * k < 2 ^ 2098) (sym (pow-add 2 d.j 3)) (lt_of_le_of_lt (eightfold q w (2 ^ 1074) most) (lit< tt)))
      (scaled (num x) q w (den x) (2 ^ 1074) d.value ∙ ap (λ (k : ℕ). q * k * (den x * 1)) (sym (pow-add 2 d.j 3))))

  pub from-least : T (le least y)
  from-least = le_of_values least y 1 1 (num x * 8) (den x * 1) (lit< tt) one (refl, refl) value (omega (arith, low))

  pub to_most : T (le y most)
  to_most = le_of_values y most (num x * 8) (den x * 1) 160000 1 one (lit< tt) value (refl, refl) (omega (arith, high))

  pub in_eighths : whole_of y ≡ eighths_of x
  unfolding whole_of
  in_eighths = come_alike (num y) (den y) (8 * num x) (den x) (den_pos y) (den_pos x) (omega (arith, value→cross y (num x * 8) (den x * 1) value)) ∙ sym (in_range_lem x p high)
