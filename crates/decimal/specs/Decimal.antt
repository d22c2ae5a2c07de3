-- Numbers as decimal digits, on the sheet and in the printed plan (01, 'The street sheet' and 'The printed plan').
use Rattle.std.specs.Prelude.{ℕ, zero, suc, ◌+◌, ◌/◌, ◌%◌, cond, List, [], ◌∷◌, ◌++◌, ltb, ℤ, pos, negsuc}

-- the digits of a number that has at most k of them, and of a longer one its last k: byte 48 is the digit 0
unfoldable pub digits_up_to : ℕ → ℕ → List ℕ
digits_up_to zero x = []
digits_up_to (suc k) x = cond (ltb x 10) ((48 + x) ∷ []) (digits_up_to k (x / 10) ++ ((48 + x % 10) ∷ []))

-- a number's decimal digits, without leading zeros except for 0 itself; no number here has more than 20
abbrev pub decimal : ℕ → List ℕ
decimal x = digits_up_to 20 x

-- a signed number's digits, with a minus sign, byte 45, directly before them where it is negative: `negsuc n` is -(n + 1)
abbrev pub signed_decimal : ℤ → List ℕ
signed_decimal (pos n) = decimal n
signed_decimal (negsuc n) = 45 ∷ decimal (suc n)
