-- What a pattern of 64 bits says of its float. One comparison tells a NaN's. Of a number that is an eighth or more, the field above the 52 digits and the digits are the
-- value. Of a number from 1 to 160,000, a shift by the field leaves nothing exactly where nothing stands below the point. Assumes nothing.
use Prim.Native.Nat.{ℕ, zero, suc, ◌+◌, ◌-◌, ◌*◌, ◌/◌, ◌%◌, ◌^◌, ◌≤◌, ◌<◌}
use mathlib.Core.Path.{◌≡◌, refl, sym, ap, ◌∙◌, subst}
use mathlib.Core.Bool.{Bool, true, false, not, cond}
use native.Mathlib.Nat.{le_trans, le_of_eq, lt_of_lt_of_le, lt_of_le_of_lt, lt_of_not-le, lt_irrefl, le-add_right, one-mul, mul-le-mul_right, eq_of_mul-eq-mul_right, mod-lt, mod-eq_of_lt, div-add-mod', add-mul-mod_self_right}
use native.Mathlib.Omega.{arith}
use borrow.Author.Tests.{leb-false, lt-ltb, le-ltb}
use lib.Dec.{T, leb, eqb, lit<, lit≤}
use lib.Pow.{pow-add, pow_pos, pow_mono, shl_lt}
use lib.Ieee.{Float, nan, inf, fin, binary64, odd, fits, is_nan, of_fields, of_bits, nan_bits, to_bits}
use lib.Ieee.Bits.{of_bits-to_bits, nan_bits_is, nan_bits_above}
use lib.Ieee.Exact.{HasValue, odd_sign}
use lib.Ieee.Positive.{num, den, positive, den_pos}
use Rattle.eighths.proofs.Fractions.{whole_too, at_least, at_most}

-- ---- a NaN

only_nan : (x : Float) → T (is_nan x) → x ≡ nan
unfolding is_nan
only_nan nan h = refl
only_nan (inf s) h = absurd h
only_nan (fin s m e) h = absurd h

pub a_nan : (b : ℕ) → 2047 * 2 ^ 52 < b % 2 ^ 63 → of_bits binary64 b ≡ nan
a_nan b h = only_nan (of_bits binary64 b) (subst T (sym (lt-ltb (2047 * 2 ^ 52) (b % 2 ^ 63) h) ∙ sym (nan_bits_above binary64 b) ∙ nan_bits_is binary64 b) tt)

pub no_nan : (b : ℕ) → b % 2 ^ 63 ≤ 2047 * 2 ^ 52 → T (not (nan_bits binary64 b))
no_nan b h = subst (λ (t : Bool). T (not t)) (sym (nan_bits_above binary64 b ∙ le-ltb (2047 * 2 ^ 52) (b % 2 ^ 63) h)) tt

-- ---- an eighth or more

-- the field f is j + 1, and the size is 2 ^ 52 and the digits t, times 2 ^ (j - 1074)
pub record Digits (f t : ℕ) (x : Float) : Type 0 where
  pub j : ℕ
  pub field : f ≡ suc j
  pub value : num x * 2 ^ 1074 ≡ (2 ^ 52 + t) * 2 ^ j * den x

sized : (x : Float) (s : Bool) (a c : ℕ) → T (positive x) → HasValue x s a c → (s ≡ false) × (num x * c ≡ a * den x)
sized nan s a c p h = absurd p
sized (inf t) s a c p h = absurd p
sized (fin true m e) s a c p h = absurd p
sized (fin false m e) s a c p h = (sym h.0, h.1)

-- the highest field is an infinity's or a NaN's, and the lowest a number's that is too small
below_top : (a b s : Bool) (v : Float) → T (positive (cond a (cond b (inf s) nan) v)) → cond a (cond b (inf s) nan) v ≡ v
below_top true true s v p = absurd p
below_top true false s v p = absurd p
below_top false b s v p = refl

too_small : (t : ℕ) → t < 2 ^ 52 → 2 ^ 1074 ≤ 8 * (t * 1) → ⊥
too_small t h k = let l : 2 ^ 55 ≤ 8 * (t * 1) = le_trans (lit≤ tt) k in omega arith

read : (s : Bool) (f t : ℕ) (x : Float) → t < 2 ^ 52 → of_fields binary64 s f t ≡ x → T (positive x) → den x ≤ 8 * num x → (s ≡ false) × Digits f t x
unfolding of_fields
read s zero t x h e p g =
    let v = sized x s (t * 1) (2 ^ 1074) p (subst (λ (y : Float). HasValue y s (t * 1) (2 ^ 1074)) e (odd_sign 53 s t 0 1074)) in
    absurd (too_small t h (at_least (num x) (den x) (t * 1) (2 ^ 1074) (den_pos x) v.1 8 g))
read s (suc j) t x h e p g =
    let q = 2 ^ 52 + t in
    let is = sym (below_top (eqb (suc j) 2047) (eqb t 0) s (odd 53 s q j 1074) (subst (λ (y : Float). T (positive y)) (sym e) p)) ∙ e in
    let v = sized x s (q * 2 ^ j) (2 ^ 1074) p (subst (λ (y : Float). HasValue y s (q * 2 ^ j) (2 ^ 1074)) is (odd_sign 53 s q j 1074)) in
    (v.0, record { j = j; field = refl; value = v.1 })

of_bits_is : (b : ℕ) → of_bits binary64 b ≡ of_fields binary64 (leb (2 ^ 63) b) (b % 2 ^ 63 / 2 ^ 52) (b % 2 ^ 52)
unfolding of_bits
of_bits_is b = refl

pub digits : (x : Float) → T (fits binary64 x) → T (positive x) → den x ≤ 8 * num x → Digits (to_bits binary64 x / 2 ^ 52) (to_bits binary64 x % 2 ^ 52) x
digits x F p g =
    let b = to_bits binary64 x in
    let (clear, d) = read (leb (2 ^ 63) b) (b % 2 ^ 63 / 2 ^ 52) (b % 2 ^ 52) x (mod-lt b (pow_pos 52)) (sym (of_bits_is b) ∙ of_bits-to_bits binary64 x F) p g in
    subst (λ (k : ℕ). Digits (k / 2 ^ 52) (b % 2 ^ 52) x) (mod-eq_of_lt (leb-false (2 ^ 63) b clear)) d

pub with_lead : (t : ℕ) → t < 2 ^ 52 → 2 ^ 52 + t < 2 ^ 53
with_lead t h = omega arith

-- ---- from 1 to 160,000

pow_back : (i p : ℕ) → 2 ^ i < 2 ^ p → i < p
pow_back i p h = lt_of_not-le (λ (g : p ≤ i). lt_irrefl (2 ^ i) (lt_of_lt_of_le h (pow_mono g)))

-- the field is 1,023 and i
in_field : (t j : ℕ) → t < 2 ^ 52 → 2 ^ 1074 ≤ 1 * ((2 ^ 52 + t) * 2 ^ j) → (2 ^ 52 + t) * 2 ^ j ≤ 160000 * 2 ^ 1074 → (i : ℕ) × (j ≡ 1022 + i) × (i < 18)
in_field t j h lo hi =
    let a = pow_back 1074 (53 + j) (lt_of_le_of_lt (le_trans lo (le_of_eq (one-mul ((2 ^ 52 + t) * 2 ^ j)))) (shl_lt 53 j (with_lead t h))) in
    let b = pow_back (52 + j) 1092 (lt_of_le_of_lt (le_trans (le_of_eq (pow-add 2 52 j)) (le_trans (mul-le-mul_right (2 ^ j) (le-add_right (2 ^ 52) t)) hi)) (lit< tt)) in
    (j - 1022, omega (arith, a), omega (arith, a, b))

-- what stands above the digits goes out at the top, shifted by 12 or more
shifted_out : (f t w : ℕ) → (f * 2 ^ 52 + t) * (2 ^ 12 * w) % 2 ^ 64 ≡ t * (2 ^ 12 * w) % 2 ^ 64
shifted_out f t w = let e : (f * 2 ^ 52 + t) * (2 ^ 12 * w) ≡ t * (2 ^ 12 * w) + f * w * 2 ^ 64 = omega arith in ap (λ (k : ℕ). k % 2 ^ 64) e ∙ add-mul-mod_self_right (t * (2 ^ 12 * w)) (f * w) (2 ^ 64)

fewer_units : (n q w d l : ℕ) → 0 < l → n * (2 ^ 64 * l) ≡ q * (2 ^ 12 * l * w) * d → n * 2 ^ 64 ≡ q * (2 ^ 12 * w) * d
fewer_units n q w d l L e = eq_of_mul-eq-mul_right l L (n * 2 ^ 64) (q * (2 ^ 12 * w) * d) (omega arith)

-- the shift is one of 12 to 29 places, and leaves 0 exactly where n / d is whole
pub record Shifted (b n d : ℕ) : Type 0 where
  pub low : 1011 ≤ b / 2 ^ 52
  pub high : b / 2 ^ 52 - 1011 < 64
  pub whole : b * 2 ^ (b / 2 ^ 52 - 1011) % 2 ^ 64 ≡ 0 → n % d ≡ 0
  pub empty : n % d ≡ 0 → b * 2 ^ (b / 2 ^ 52 - 1011) % 2 ^ 64 ≡ 0

by_field : (b n d i : ℕ) → 0 < d → b / 2 ^ 52 ≡ 1023 + i → i < 18 → n * 2 ^ 1074 ≡ (2 ^ 52 + b % 2 ^ 52) * 2 ^ (1022 + i) * d → Shifted b n d
by_field b n d i D f h v =
    let t = b % 2 ^ 52 in
    let c = (2 ^ 52 + t) * (2 ^ 12 * 2 ^ i) in
    let by : b / 2 ^ 52 - 1011 ≡ 12 + i = omega arith in
    let left : b * 2 ^ (b / 2 ^ 52 - 1011) % 2 ^ 64 ≡ c % 2 ^ 64 =
    ap (λ (k : ℕ). b * k % 2 ^ 64) (ap (λ (k : ℕ). 2 ^ k) by ∙ pow-add 2 12 i)
    ∙ ap (λ (k : ℕ). k * (2 ^ 12 * 2 ^ i) % 2 ^ 64) (sym (div-add-mod' b (2 ^ 52)))
    ∙ shifted_out (b / 2 ^ 52) t (2 ^ i)
    ∙ sym (shifted_out 1 t (2 ^ i)) in
    let same : n * 2 ^ 64 ≡ c * d = fewer_units n (2 ^ 52 + t) (2 ^ i) d (2 ^ 1010) (pow_pos 1010) (v ∙ ap (λ (k : ℕ). (2 ^ 52 + t) * k * d) (pow-add 2 1022 i)) in
    record {
      low = omega arith;
      high = omega arith;
      whole = λ z. whole_too c (2 ^ 64) n d (pow_pos 64) (sym same) (sym left ∙ z);
      empty = λ z. left ∙ whole_too n d c (2 ^ 64) D same z;
    }

pub shifted : (x : Float) → T (fits binary64 x) → T (positive x) → den x ≤ 1 * num x → num x ≤ 160000 * den x → Shifted (to_bits binary64 x) (num x) (den x)
shifted x F p lo hi =
    let b = to_bits binary64 x in
    let d = digits x F p (omega (arith, lo)) in
    let a = (2 ^ 52 + b % 2 ^ 52) * 2 ^ d.j in
    let (i, is, small) =
    in_field (b % 2 ^ 52) d.j (mod-lt b (pow_pos 52)) (at_least (num x) (den x) a (2 ^ 1074) (den_pos x) d.value 1 lo) (at_most (num x) (den x) a (2 ^ 1074) (den_pos x) d.value 160000 hi) in
    by_field b (num x) (den x) i (den_pos x) (omega (arith, d.field)) small (subst (λ (k : ℕ). num x * 2 ^ 1074 ≡ (2 ^ 52 + b % 2 ^ 52) * 2 ^ k * den x) is d.value)
