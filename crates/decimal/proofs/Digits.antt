-- How a number's digits arise, and how many there are. Below ten to the k, no digit is lost by looking at the last k alone, by
-- induction on k: a tenth of the number is below ten to the k - 1. So the digits of a number of ten and more are those of its tenth
-- and one more, and a number below ten to the k has at most k. Assumes nothing.
use Prim.Native.Nat.{ℕ, zero, suc, ◌+◌, ◌*◌, ◌/◌, ◌%◌, ◌^◌, ◌≤◌, ◌<◌}
use native.Mathlib.Nat.{pow-suc, div-lt_iff_lt-mul}
use native.Mathlib.Omega.{arith}
use mathlib.Core.Path.{◌≡◌, refl, sym, ap, ◌∙◌}
use mathlib.Core.Bool.{Bool, true, false}
use mathlib.Core.List.{List, [], ◌∷◌, ◌++◌}
use lib.Dec.{ltb, lit<}
use lib.ListN.{length, length-append}
use borrow.Author.Tests.{lt-ltb, le-ltb, ltb-true, ltb-false}
use Rattle.decimal.specs.Decimal.{digits_up_to, decimal}

-- a number is below another or it is not: what both ways show holds
module _ {P : Type 0} (x n : ℕ) (below : x < n → P) (above : n ≤ x → P) where
  by_test : (t : Bool) → ltb x n ≡ t → P
  by_test true e = below (ltb-true x n e)
  by_test false e = above (ltb-false x n e)

  pub by_size : P
  by_size = by_test (ltb x n) refl

-- the two ways to make digits
pub one_digit : (k x : ℕ) → x < 10 → digits_up_to (suc k) x ≡ (48 + x) ∷ []
unfolding digits_up_to
one_digit k x h = rw (lt-ltb x 10 h)

pub more_digits : (k x : ℕ) → 10 ≤ x → digits_up_to (suc k) x ≡ digits_up_to k (x / 10) ++ (48 + x % 10) ∷ []
unfolding digits_up_to
more_digits k x h = rw (le-ltb x 10 h)

pub tenth : (k x : ℕ) → x < 10 ^ suc k → x / 10 < 10 ^ k
tenth k x h = (div-lt_iff_lt-mul (lit< tt)).1 (rw (pow-suc 10 k) at h)

-- any two numbers of places that suffice give the same digits
places : (j k x : ℕ) → x < 10 ^ suc j → x < 10 ^ suc k → digits_up_to (suc j) x ≡ digits_up_to (suc k) x
places zero k x g h = one_digit 0 x g ∙ sym (one_digit k x g)
places (suc j) zero x g h = one_digit (suc j) x h ∙ sym (one_digit 0 x h)
places (suc j) (suc k) x g h =
    by_size x 10
    (λ s. one_digit (suc j) x s ∙ sym (one_digit (suc k) x s))
    (λ m.
    more_digits (suc j) x m
    ∙ ap (λ (d : List ℕ). d ++ (48 + x % 10) ∷ []) (places j k (x / 10) (tenth (suc j) x g) (tenth (suc k) x h))
    ∙ sym (more_digits (suc k) x m))

-- no more digits than places
pub few : (k x : ℕ) → length (digits_up_to k x) ≤ k
unfolding digits_up_to
few zero x = omega arith
few (suc k) x =
    by_size x 10
    (λ s. rw (one_digit k x s) (omega arith))
    (λ m. rw (more_digits k x m) (simp length-append (omega (arith, few k (x / 10)))))

-- a number of ten and more has the digits of its tenth and one more
module _ (x : ℕ) (small : x < 2 ^ 32) (long : 10 ≤ x) where
  pub decimal-more : decimal x ≡ decimal (x / 10) ++ (48 + x % 10) ∷ []
  decimal-more =
      more_digits 19 x long
      ∙ ap (λ (d : List ℕ). d ++ (48 + x % 10) ∷ []) (places 18 19 (x / 10) (omega arith) (omega arith))

  pub size-more : length (decimal x) ≡ length (decimal (x / 10)) + 1
  size-more = ap length decimal-more ∙ length-append (decimal (x / 10)) ((48 + x % 10) ∷ [])

-- the same from the tenth: a digit written behind a number
pub next_digit : (x d : ℕ) → 1 ≤ x → d ≤ 9 → 10 * x + d < 2 ^ 32 → decimal (10 * x + d) ≡ decimal x ++ (48 + d) ∷ []
next_digit x d low digit small =
    let q : (10 * x + d) / 10 ≡ x = omega arith in
    let r : (10 * x + d) % 10 ≡ d = omega arith in
    decimal-more (10 * x + d) small (omega arith) ∙ rw (q, r)

-- a number of 32 bits has one digit to ten
pub decimal_some : (x : ℕ) → 1 ≤ length (decimal x)
decimal_some x =
    by_size x 10
    (λ s. rw (one_digit 19 x s) (omega arith))
    (λ m. rw (more_digits 19 x m) (simp length-append (omega arith)))

-- below ten to the k + 1 there are at most k + 1 digits
pub at_most : (k x : ℕ) → x < 2 ^ 32 → x < 10 ^ suc k → length (decimal x) ≤ suc k
at_most k x small h = rw (places 19 k x (omega arith) h) (few (suc k) x)

pub decimal-ten : (x : ℕ) → x < 2 ^ 32 → length (decimal x) ≤ 10
decimal-ten x h = at_most 9 x h (omega arith)

-- a number's last k digits, with zeros before it where it has fewer
unfoldable pub last_digits : ℕ → ℕ → List ℕ
last_digits zero x = []
last_digits (suc k) x = last_digits k (x / 10) ++ (48 + x % 10) ∷ []

-- and as many as it has are all of them
pub last_are_all : (k x : ℕ) → digits_up_to k x ≡ last_digits (length (digits_up_to k x)) x
unfolding digits_up_to last_digits
last_are_all zero x = refl
last_are_all (suc k) x =
    by_size x 10
    (λ s. rw (one_digit k x s) (let e : x % 10 ≡ x = omega arith in rw e refl))
    (λ m.
    let e : length (digits_up_to (suc k) x) ≡ suc (length (digits_up_to k (x / 10))) = rw (more_digits k x m) (simp length-append (omega arith)) in
    rw e (more_digits k x m ∙ ap (λ (d : List ℕ). d ++ (48 + x % 10) ∷ []) (last_are_all k (x / 10))))

pub length-last_digits : (k x : ℕ) → length (last_digits k x) ≡ k
unfolding last_digits
length-last_digits zero x = refl
length-last_digits (suc k) x = simp length-append (omega (arith, length-last_digits k (x / 10)))
