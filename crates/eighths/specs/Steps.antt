-- Steps: what the library's functions say to each other and to the proofs. No contract of a public call cites it.
use Rattle.std.specs.Prelude.{ℕ, ◌/◌, ◌%◌, false, cond, eqb, pos, Float, Option, Some, None}
use Rattle.std.specs.Float.{fin}
use Rattle.std.specs.Float.Ieee.Positive.{num, den}

-- the floats 1 and 160,000, which is 625 times 2 ^ 8
abbrev pub least : Float
least = fin false 1 (pos 0)

abbrev pub most : Float
most = fin false 625 (pos 8)

-- what a positive number comes to by its own size: itself, if it is whole
unfoldable pub whole_of : Float → Option ℕ
whole_of x = cond (eqb (num x % den x) 0) (Some (num x / den x)) None
