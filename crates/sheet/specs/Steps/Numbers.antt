-- How a number is read: 1 to 8 decimal digits, no leading zero except 0 itself, and the byte that has to follow (01, 'The street sheet').
use Rattle.std.specs.Prelude.{ℕ, ◌+◌, ◌-◌, ◌*◌, cond, eqb, List, [], ◌∷◌, Option, Some, None, option_and_then}
use Rattle.street.specs.Checks.{within}

-- the value of a byte that is a digit: bytes 48 to 57 stand for 0 to 9
unfoldable pub digit_of : ℕ → Option ℕ
digit_of b = cond (within 48 57 b) (Some (b - 48)) None

-- a number of which some digits are read, and the bytes behind the byte that ends it: a further digit may follow 1 to 9,999,999, which are the numbers of 1 to 7 digits that do not start with a zero
unfoldable pub more : ℕ → ℕ → List ℕ → Option (ℕ × List ℕ)
more end value [] = None
more end value (b ∷ rest) =
    cond (eqb b end) (Some (value, rest))
    (cond (within 1 9999999 value) (option_and_then (λ d. more end (10 * value + d) rest) (digit_of b)) None)

-- the number at the start of the bytes, which starts with a digit
unfoldable pub number : ℕ → List ℕ → Option (ℕ × List ℕ)
number end [] = None
number end (b ∷ rest) = option_and_then (λ d. more end d rest) (digit_of b)
