-- A float from 1 to 160,000 as a fraction. Where nothing stands below the point, the cast to 32 bits is allowed and gives its whole part. Assumes nothing.
use Prim.Native.Nat.{◌*◌, ◌/◌, ◌%◌, ◌^◌, ◌≤◌, ◌<◌}
use mathlib.Core.Path.{◌≡◌}
use mathlib.Core.Bool.{true, false, not, ◌&&◌}
use native.Mathlib.Nat.{div-lt_iff_lt-mul}
use native.Mathlib.Omega.{arith}
use lib.Dec.{T, leb, ltb, eqb, lt→ltb, le→leb}
use lib.Ieee.{Float, nan, inf, fin, binary64, up, down, is_nan, le, whole, in_unsigned, to_unsigned}
use lib.Ieee.Casts.{to_unsigned_cut}
use lib.Ieee.Fits.{and_i, eq→eqb, down_pos}
use lib.Ieee.Positive.{num, den, positive, between, le→cross}
use Rattle.eighths.specs.Steps.{least, most}

pub record Within (x : Float) : Type 0 where
  pub positive : T (positive x)
  pub low : den x ≤ 1 * num x
  pub high : num x ≤ 160000 * den x

pub within : (x : Float) → T (le least x) → T (le x most) → Within x
within x lo hi =
    let p = between least x most tt tt lo hi in
    record { positive = p; low = omega (arith, le→cross least x tt p lo); high = omega (arith, le→cross x most p tt hi) }

pub a_number : (x : Float) → T (positive x) → T (not (is_nan x))
unfolding is_nan
a_number nan p = absurd p
a_number (inf s) p = absurd p
a_number (fin s m e) p = tt

pub castable : (x : Float) → Within x → num x % den x ≡ 0 → T (in_unsigned binary64 32 x)
unfolding in_unsigned whole
castable nan w z = absurd w.positive
castable (inf s) w z = absurd w.positive
castable (fin true m e) w z = absurd w.positive
castable (fin false m e) w z =
    let q = m * up e / down e in
    let A = eqb (m * up e % down e) 0 in
    let B = leb q (2 ^ 53) in
    let h : q < 160001 = (div-lt_iff_lt-mul (down_pos e)).1 (omega (arith, w.high, down_pos e)) in
    and_i (A && B && true) (ltb q (2 ^ 32)) (and_i (A && B) true (and_i A B (eq→eqb z) (le→leb q (2 ^ 53) (omega arith))) tt) (lt→ltb q (2 ^ 32) (omega arith))

pub cast_is : (x : Float) → T (in_unsigned binary64 32 x) → to_unsigned 32 x ≡ num x / den x
unfolding in_unsigned
cast_is nan t = absurd t
cast_is (inf s) t = absurd t
cast_is (fin s m e) t = to_unsigned_cut binary64 32 s m e t
