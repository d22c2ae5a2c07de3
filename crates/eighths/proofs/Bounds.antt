-- A float that is a whole number of eighths is either zero, with either sign, or lies from an eighth to 20,000. Assumes nothing.
use Prim.Native.Nat.{ℕ, suc, ◌*◌}
use mathlib.Core.Path.{◌≡◌, refl, sym, ap, ◌∙◌}
use mathlib.Core.Bool.{Bool, true, false, not, ◌||◌, beq}
use native.Mathlib.Nat.{zero-mul, mul_comm, mul-pos, zero-lt-suc, eq_of_mul-eq-mul_right}
use native.Mathlib.Omega.{arith}
use lib.IntN.{pos}
use lib.Dec.{T, eqb, eqb→eq, lit<, lit≤}
use lib.Ieee.{Float, nan, inf, fin, up, down, eq, le}
use lib.Ieee.Exact.{HasValue}
use lib.Ieee.Fits.{and_i, and_l, eq→eqb, up_pos, down_pos}
use lib.Ieee.Order.{le_of_values}
use Rattle.eighths.specs.Readings.{IsEighths}
use Rattle.eighths.proofs.TimesEight.{eighth, largest}

-- the float 0
abbrev pub nothing : Float
nothing = fin false 0 (pos 0)

or_r : (a b : Bool) → T b → T (a || b)
or_r true b t = tt
or_r false b t = t

-- ---- zero

pub zero_is : (x : Float) → T (eq x nothing) → IsEighths x 0
unfolding eq
zero_is nan h = absurd h
zero_is (inf s) h = absurd h
zero_is (fin s m e) h =
    let n = eqb→eq (m * up e * 1) (0 * down e) (and_l (eqb (m * up e * 1) (0 * down e)) (beq s false || eqb (m * up e * 1) 0) h) in
    record {
      finite = tt;
      not_negative = or_r (not s) (eqb m 0) (eq→eqb (eq_of_mul-eq-mul_right (up e) (up_pos e) m 0 (omega (arith, n))));
      value = omega (arith, n);
      most = lit≤ tt;
    }

pub is_zero : (x : Float) → IsEighths x 0 → T (eq x nothing)
unfolding eq
is_zero nan i = absurd i.finite
is_zero (inf s) i = absurd i.finite
is_zero (fin s m e) i =
    let z : m * up e * 1 ≡ 0 = omega (arith, i.value) in
    and_i (eqb (m * up e * 1) (0 * down e)) (beq s false || eqb (m * up e * 1) 0) (eq→eqb (z ∙ sym (zero-mul (down e)))) (or_r (beq s false) (eqb (m * up e * 1) 0) (eq→eqb z))

-- ---- some eighths

above_zero : (x : Float) (k : ℕ) → IsEighths x (suc k) → HasValue x false (suc k) 8
above_zero nan k i = absurd i.finite
above_zero (inf s) k i = absurd i.finite
above_zero (fin true m e) k i =
    absurd (omega (arith, ap (λ (a : ℕ). a * up e) (eqb→eq m 0 i.not_negative), i.value, mul-pos (zero-lt-suc k) (down_pos e)))
above_zero (fin false m e) k i = (refl, mul_comm (m * up e) 8 ∙ i.value)

pub from-eighth : (x : Float) (k : ℕ) → IsEighths x (suc k) → T (le eighth x)
from-eighth x k i = le_of_values eighth x 1 8 (suc k) 8 (lit< tt) (lit< tt) (refl, refl) (above_zero x k i) (omega arith)

pub to_largest : (x : Float) (k : ℕ) → IsEighths x (suc k) → T (le x largest)
to_largest x k i = le_of_values x largest (suc k) 8 20000 1 (lit< tt) (lit< tt) (above_zero x k i) (refl, refl) (omega (arith, i.most))
