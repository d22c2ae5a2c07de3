-- The order of signed numbers, which the library's ℤ leaves out: a test, the smaller and the larger of two.
use Rattle.std.specs.Prelude.{Bool, true, false, cond, ℕ, ℤ, pos, negsuc, leb}

-- whether the first signed number is at most the second
abbrev pub leℤ : ℤ → ℤ → Bool
leℤ (pos a) (pos b) = leb a b
leℤ (pos a) (negsuc b) = false
leℤ (negsuc a) (pos b) = true
leℤ (negsuc a) (negsuc b) = leb b a

-- whether two signed numbers are equal: each is at most the other
abbrev pub eqℤ : ℤ → ℤ → Bool
eqℤ x y = cond (leℤ x y) (leℤ y x) false

-- the smaller of two signed numbers
abbrev pub minℤ : ℤ → ℤ → ℤ
minℤ x y = cond (leℤ x y) x y

-- the larger of two signed numbers
abbrev pub maxℤ : ℤ → ℤ → ℤ
maxℤ x y = cond (leℤ x y) y x

-- a signed number where it is 0 or more, else 0
abbrev pub or_zero : ℤ → ℕ
or_zero (pos a) = a
or_zero (negsuc a) = 0
