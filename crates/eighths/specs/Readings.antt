-- Which floats an instrument's reading may be, and how many eighths it then is (02, 2026-04). All of it goes by the float's value; no bit enters.
-- A finite float is `fin s m e`, m * 2 ^ e, negative where s holds; `num` / `den` is its size as a fraction.
use Rattle.std.specs.Prelude.{ℕ, ◌*◌, ◌/◌, ◌%◌, ◌≤◌, ◌≡◌, Bool, false, not, cond, ◌&&◌, ◌||◌, T, leb, eqb, Float, Option, Some, None}
use Rattle.std.specs.Float.{nan, inf, fin}
use Rattle.std.specs.Float.Ieee.Scale.{finite}
use Rattle.std.specs.Float.Ieee.Positive.{num, den}

-- the largest reading, in metres or metres a second
abbrev pub max_reading : ℕ
max_reading = 20000

-- not negative; negative zero counts as zero
abbrev pub not_negative : Float → Bool
not_negative nan = false
not_negative (inf s) = not s
not_negative (fin s m e) = not s || eqb m 0

-- at most so many metres, of a float that is not negative
abbrev pub at_most : ℕ → Float → Bool
at_most limit x = leb (num x) (limit * den x)

-- a whole multiple of one eighth: eight times its size is a whole number
abbrev pub whole_eighths : Float → Bool
whole_eighths x = eqb (8 * num x % den x) 0

-- a length or speed is accepted, being inside the rules, when it is finite, not negative, at most 20,000 and a whole multiple of one eighth
abbrev pub inside_rules : Float → Bool
inside_rules x = finite x && not_negative x && at_most max_reading x && whole_eighths x

-- what a float comes to: so many eighths, or it is outside the rules
unfoldable pub eighths_of : Float → Option ℕ
eighths_of x = cond (inside_rules x) (Some (8 * num x / den x)) None

-- a float's value is k eighths, k a whole number and at most 160,000: what it means to be inside the rules
pub record IsEighths (x : Float) (k : ℕ) : Type 0 where
  pub finite : T (finite x)
  pub not_negative : T (not_negative x)
  pub value : 8 * num x ≡ k * den x
  pub most : k ≤ 8 * max_reading
