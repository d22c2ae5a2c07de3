-- The contract of a reading settles the answer: two answers that it allows are equal, since both equal what it names. Assumes nothing.
use mathlib.Core.Path.{◌≡◌, sym, ◌∙◌}
use lib.Ieee.{Float}
use Rattle.std.specs.Prelude.{ℕ, Option}
use Rattle.eighths.specs.Readings.{eighths_of}

pub unique : (x : Float) (r r' : Option ℕ) → r ≡ eighths_of x → r' ≡ eighths_of x → r ≡ r'
unique x r r' one other = one ∙ sym other
