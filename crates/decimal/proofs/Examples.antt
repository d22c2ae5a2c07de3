-- The digits run on examples: each side computes to the same bytes. Assumes nothing.
use mathlib.Core.Path.{◌≡◌, refl}
use mathlib.Core.List.{[], ◌∷◌}
use lib.IntN.{pos, negsuc}
use Rattle.decimal.specs.Decimal.{digits_up_to, decimal, signed_decimal}
use Rattle.decimal.specs.Steps.{overwritten}

nothing : decimal 0 ≡ 48 ∷ []
unfolding digits_up_to
nothing = refl

seven : decimal 7 ≡ 55 ∷ []
unfolding digits_up_to
seven = refl

ten : decimal 10 ≡ 49 ∷ 48 ∷ []
unfolding digits_up_to
ten = refl

-- the largest number of 32 bits
largest : decimal 4294967295 ≡ 52 ∷ 50 ∷ 57 ∷ 52 ∷ 57 ∷ 54 ∷ 55 ∷ 50 ∷ 57 ∷ 53 ∷ []
unfolding digits_up_to
largest = refl

-- a signed number without and with its sign, and the least one of 32 bits
sixty : signed_decimal (pos 60) ≡ 54 ∷ 48 ∷ []
unfolding digits_up_to
sixty = refl

minus_sixty : signed_decimal (negsuc 59) ≡ 45 ∷ 54 ∷ 48 ∷ []
unfolding digits_up_to
minus_sixty = refl

least : signed_decimal (negsuc 2147483647) ≡ 45 ∷ 50 ∷ 49 ∷ 52 ∷ 55 ∷ 52 ∷ 56 ∷ 51 ∷ 54 ∷ 52 ∷ 56 ∷ []
unfolding digits_up_to
least = refl

-- two bytes written from the second place on: the first and the fourth stay
over : overwritten 1 (7 ∷ 8 ∷ []) (1 ∷ 2 ∷ 3 ∷ 4 ∷ []) ≡ 1 ∷ 7 ∷ 8 ∷ 4 ∷ []
over = refl
