-- A number's decimal digits and reading it are inverse. Reading the digits of x comes to x, by induction on how many there are: the last one makes x of its
-- tenth part. The other way, the digits read so far are always those of the value so far, since a digit that is taken after a value is the last digit of
-- the next one. Assumes nothing.
use Prim.Native.Nat.{ℕ, zero, suc, ◌+◌, ◌-◌, ◌*◌, ◌/◌, ◌%◌, ◌^◌, ◌≤◌, ◌<◌}
use mathlib.Core.Bool.{Bool, true, false, cond}
use mathlib.Core.Path.{◌≡◌, refl, sym, ap, ◌∙◌}
use mathlib.Core.List.{List, [], ◌∷◌, ◌++◌}
use native.Mathlib.Omega.{arith}
use lib.Dec.{leb, eqb, lit<}
use lib.Seq.{append_snoc}
use borrow.Author.Tests.{le-leb, leb-true, eq-eqb, ne_eqb, eqb-true}
use Rattle.std.specs.Prelude.{Some, None, option_and_then}
use Rattle.std.proofs.lemmas.Option.{some_pair_parts}
use Rattle.circle.proofs.Numbers.{cond_left, cond_right}
use Rattle.street.specs.Checks.{within}
use Rattle.decimal.specs.Decimal.{decimal, digits_up_to}
use Rattle.decimal.specs.Lines.{space, line_end}
use Rattle.decimal.proofs.Digits.{by_size, one_digit, more_digits, tenth, next_digit}
use Rattle.sheet.specs.Form.{EightDigits}
use Rattle.sheet.specs.Steps.Numbers.{digit_of, more, number}
use Rattle.sheet.proofs.Backwards.{past_test, past_some}

-- ---- a digit

digit_byte : (d : ℕ) → d ≤ 9 → digit_of (48 + d) ≡ Some d
unfolding digit_of
digit_byte d h = rw (le-leb 48 (48 + d) (omega arith), le-leb (48 + d) 57 (omega arith)) (ap Some (omega arith))

record IsDigit (b d : ℕ) : Type 0 where
  byte : b ≡ 48 + d
  small : d ≤ 9

digit_is : (b d : ℕ) → digit_of b ≡ Some d → IsDigit b d
unfolding digit_of
digit_is b d e =
    let t = past_test (Some (b - 48)) None (Some d) (λ q. cc) (within 48 57 b) e in
    let low : 48 ≤ b = leb-true 48 b (cond_left (leb 48 b) (leb b 57) t.0) in
    let high : b ≤ 57 = leb-true b 57 (cond_right (leb 48 b) (leb b 57) t.0) in
    let value : b - 48 ≡ d = cc (t.1) in
    record { byte = omega arith; small = omega arith }

-- ---- reading the digits of a number

module _ (end : ℕ) (other : end < 48) where
  first_read : (d : ℕ) (tail : List ℕ) → d ≤ 9 → number end ((48 + d) ∷ tail) ≡ more end d tail
  unfolding number
  first_read d tail h = rw (digit_byte d h) refl

  next_read : (x d : ℕ) (tail : List ℕ) → 1 ≤ x → x ≤ 9999999 → d ≤ 9 → more end x ((48 + d) ∷ tail) ≡ more end (10 * x + d) tail
  unfolding more
  next_read x d tail low high h = rw (ne_eqb (48 + d) end (omega arith), le-leb 1 x low, le-leb x 9999999 high, digit_byte d h) refl

  digits_read : (k x : ℕ) (tail : List ℕ) → x < 10 ^ suc k → EightDigits x → number end (digits_up_to (suc k) x ++ tail) ≡ more end x tail
  digits_read zero x tail h s =
      let t : x < 10 = h in
      rw (one_digit 0 x t) (first_read x tail (omega arith))
  digits_read (suc k) x tail h s =
      by_size x 10
      (λ t. rw (one_digit (suc k) x t) (first_read x tail (omega arith)))
      (λ t.
      let whole : 10 * (x / 10) + x % 10 ≡ x = omega arith in
      rw (more_digits (suc k) x t, append_snoc)
      (digits_read k (x / 10) ((48 + x % 10) ∷ tail) (tenth (suc k) x h) (omega arith)
      ∙ next_read (x / 10) (x % 10) tail (omega arith) (omega arith) (omega arith)
      ∙ ap (λ (v : ℕ). more end v tail) whole))

  number_read : (x : ℕ) (rest : List ℕ) → EightDigits x → number end (decimal x ++ end ∷ rest) ≡ Some (x, rest)
  unfolding more
  number_read x rest s = digits_read 19 x (end ∷ rest) (omega arith) s ∙ rw (eq-eqb end end refl) refl

pub space_read : (x : ℕ) (rest : List ℕ) → EightDigits x → number space (decimal x ++ space ∷ rest) ≡ Some (x, rest)
space_read x rest s = number_read space (lit< tt) x rest s

pub line_read : (x : ℕ) (rest : List ℕ) → EightDigits x → number line_end (decimal x ++ line_end ∷ rest) ≡ Some (x, rest)
line_read x rest s = number_read line_end (lit< tt) x rest s

-- ---- the bytes of a number that was read

-- its digits, the byte that ended it and the bytes after
pub record Wrote (bytes : List ℕ) (end x : ℕ) (rest : List ℕ) : Type 0 where
  pub form : bytes ≡ decimal x ++ end ∷ rest
  pub short : EightDigits x

module _ (end y : ℕ) (rest : List ℕ) where
  more_wrote : (x : ℕ) (bytes : List ℕ) → EightDigits x → more end x bytes ≡ Some (y, rest) → Wrote (decimal x ++ bytes) end y rest
  unfolding more
  more_wrote x [] s e = cc
  more_wrote x (b ∷ bytes) s e = by_test (eqb b end) refl e (λ d t. more_wrote (10 * x + d) bytes t)
    where
      by_test : (t : Bool) → eqb b end ≡ t → cond t (Some (x, bytes)) (cond (within 1 9999999 x) (option_and_then (λ d. more end (10 * x + d) bytes) (digit_of b)) None) ≡ Some (y, rest) →
          ((d : ℕ) → EightDigits (10 * x + d) → more end (10 * x + d) bytes ≡ Some (y, rest) → Wrote (decimal (10 * x + d) ++ bytes) end y rest) →
          Wrote (decimal x ++ b ∷ bytes) end y rest
      by_test true t q next =
          let same = some_pair_parts x y bytes rest q in
          rw (eqb-true b end t, ← same.0, ← same.1) (record { form = refl; short = s })
      by_test false t q next =
          let w = past_test (option_and_then (λ d. more end (10 * x + d) bytes) (digit_of b)) None (Some (y, rest)) (λ q. cc) (within 1 9999999 x) q in
          let p = past_some (λ d. more end (10 * x + d) bytes) (digit_of b) (y, rest) w.1 in
          let d = p.0 in
          let digit : IsDigit b d = digit_is b d p.1 in
          let low : 1 ≤ x = leb-true 1 x (cond_left (leb 1 x) (leb x 9999999) w.0) in
          let high : x ≤ 9999999 = leb-true x 9999999 (cond_right (leb 1 x) (leb x 9999999) w.0) in
          let small : d ≤ 9 = digit.small in
          let later : Wrote (decimal (10 * x + d) ++ bytes) end y rest = next d (omega arith) p.2 in
          let same : decimal x ++ b ∷ bytes ≡ decimal (10 * x + d) ++ bytes =
          ap (λ (z : ℕ). decimal x ++ z ∷ bytes) digit.byte
          ∙ sym (append_snoc (decimal x) (48 + d) bytes)
          ∙ sym (ap (λ (l : List ℕ). l ++ bytes) (next_digit x d low small (omega arith))) in
          record { form = same ∙ later.form; short = later.short }

  pub number_wrote : (bytes : List ℕ) → number end bytes ≡ Some (y, rest) → Wrote bytes end y rest
  unfolding number
  number_wrote [] e = cc
  number_wrote (b ∷ bytes) e =
      let p = past_some (λ d. more end d bytes) (digit_of b) (y, rest) e in
      let digit : IsDigit b p.0 = digit_is b p.0 p.1 in
      let small : p.0 ≤ 9 = digit.small in
      let later : Wrote (decimal p.0 ++ bytes) end y rest = more_wrote p.0 bytes (omega arith) p.2 in
      let same : b ∷ bytes ≡ decimal p.0 ++ bytes =
      ap (λ (z : ℕ). z ∷ bytes) digit.byte ∙ sym (ap (λ (l : List ℕ). l ++ bytes) (one_digit 19 p.0 (omega arith))) in
      record { form = same ∙ later.form; short = later.short }
