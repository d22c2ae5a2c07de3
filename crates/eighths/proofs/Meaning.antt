-- What it means that a float comes to so many eighths: exactly then it is finite, not negative, that many eighths in value, and at most 20,000. Assumes nothing.
use Prim.Native.Nat.{ℕ, ◌*◌, ◌/◌, ◌%◌, ◌≤◌}
use mathlib.Core.Path.{◌≡◌, refl, ap, ◌∙◌, subst}
use mathlib.Core.Bool.{Bool, true, false, cond, ◌&&◌}
use native.Mathlib.Nat.{mul-mod_left, mul-div_cancel, mul-le-mul_right, div-le_of_le-mul}
use native.Mathlib.Omega.{arith}
use lib.Dec.{T, leb→le, le→leb, eqb→eq}
use lib.Ieee.{Float, binary64, of_bits}
use lib.Ieee.Scale.{finite}
use lib.Ieee.Positive.{num, den, den_pos}
use lib.Ieee.Fits.{and_i, and_l, and_r, eq→eqb}
use lib.Ieee.Bits.{is_true}
use Rattle.std.specs.Prelude.{Some, None}
use Rattle.eighths.specs.Readings.{not_negative, max_reading, at_most, whole_eighths, inside_rules, eighths_of, IsEighths}
use Rattle.eighths.proofs.Fractions.{no_rest}

-- a float inside the rules is as many eighths as its value says
inside_is : (x : Float) → T (inside_rules x) → IsEighths x (8 * num x / den x)
inside_is x t =
    let F = finite x in
    let N = not_negative x in
    let A = at_most max_reading x in
    let W = whole_eighths x in
    let u = and_l (F && N && A) W t in
    record {
      finite = and_l F N (and_l (F && N) A u);
      not_negative = and_r F N (and_l (F && N) A u);
      value = no_rest (8 * num x) (den x) (eqb→eq (8 * num x % den x) 0 (and_r (F && N && A) W t));
      most = div-le_of_le-mul (den x) (omega (arith, leb→le (num x) (max_reading * den x) (and_r (F && N) A u)));
    }

-- and a float that is k eighths is inside them
is_inside : (x : Float) (k : ℕ) → IsEighths x k → T (inside_rules x)
is_inside x k i =
    let F = finite x in
    let N = not_negative x in
    let A = at_most max_reading x in
    and_i (F && N && A) (whole_eighths x)
    (and_i (F && N) A (and_i F N i.finite i.not_negative) (le→leb (num x) (max_reading * den x) (omega (arith, i.value, mul-le-mul_right (den x) i.most))))
    (eq→eqb (ap (λ (z : ℕ). z % den x) i.value ∙ mul-mod_left k (den x)))

pub is_whole : (x : Float) (k : ℕ) → IsEighths x k → eighths_of x ≡ Some k
unfolding eighths_of
is_whole x k i =
    ap (λ (b : Bool). cond b (Some (8 * num x / den x)) None) (is_true (inside_rules x) (is_inside x k i))
    ∙ ap Some (ap (λ (z : ℕ). z / den x) i.value ∙ mul-div_cancel k (den_pos x))

pub whole_is : (x : Float) (k : ℕ) → eighths_of x ≡ Some k → IsEighths x k
unfolding eighths_of
whole_is x k h = go (inside_rules x) (inside_is x) h
  where
    go : (b : Bool) → (T b → IsEighths x (8 * num x / den x)) → cond b (Some (8 * num x / den x)) None ≡ Some k → IsEighths x k
    go true f e = let same : 8 * num x / den x ≡ k = cc in subst (IsEighths x) same (f tt)
    go false f e = cc

pub outside_is : (x : Float) → eighths_of x ≡ None → (k : ℕ) → IsEighths x k → ⊥
outside_is x h k i = cc (is_whole x k i)

-- the other way: a float that is no number of eighths is outside
pub is_outside : (x : Float) → ((k : ℕ) → IsEighths x k → ⊥) → eighths_of x ≡ None
unfolding eighths_of
is_outside x h = go (inside_rules x) (λ t. h (8 * num x / den x) (inside_is x t))
  where
    go : (b : Bool) → (T b → ⊥) → cond b (Some (8 * num x / den x)) None ≡ None
    go true f = absurd (f tt)
    go false f = refl

pub eighths_small : (x : Float) (k : ℕ) → eighths_of x ≡ Some k → k ≤ 160000
eighths_small x k h = (whole_is x k h).most

-- 13.875 is 111 eighths, and 0.1, which a float holds only nearly, is no number of eighths
pub some_eighths : IsEighths (of_bits binary64 0x402b_c000_0000_0000) 111
unfolding eighths_of of_bits
some_eighths = whole_is (of_bits binary64 0x402b_c000_0000_0000) 111 refl

pub no_eighths : (k : ℕ) → IsEighths (of_bits binary64 0x3fb9_9999_9999_999a) k → ⊥
unfolding eighths_of of_bits
no_eighths = outside_is (of_bits binary64 0x3fb9_9999_9999_999a) refl
