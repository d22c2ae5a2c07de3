-- A table of bit patterns and what they come to, each worked out by the definition (02, 2026-04). Assumes nothing.
use Prim.Native.Nat.{ℕ}
use mathlib.Core.Path.{◌≡◌, refl}
use mathlib.Core.List.{List, [], ◌∷◌, map}
use lib.Ieee.{binary64, of_bits}
use Rattle.std.specs.Prelude.{Option, Some, None}
use Rattle.eighths.specs.Readings.{eighths_of}

-- what the floats of some patterns come to
unfoldable pub come_to : List ℕ → List (Option ℕ)
come_to = map (λ bits. eighths_of (of_bits binary64 bits))

-- zero, and negative zero
pub zeros : come_to (0x0000_0000_0000_0000 ∷ 0x8000_0000_0000_0000 ∷ []) ≡ Some 0 ∷ Some 0 ∷ []
unfolding come_to eighths_of of_bits
zeros = refl

-- the least number above zero, which is subnormal; an eighth less one place, an eighth, and one place more; a sixteenth, a half, 0.1
pub small : come_to (0x0000_0000_0000_0001 ∷ 0x3fbf_ffff_ffff_ffff ∷ 0x3fc0_0000_0000_0000 ∷ 0x3fc0_0000_0000_0001 ∷ 0x3fb0_0000_0000_0000 ∷ 0x3fe0_0000_0000_0000 ∷ 0x3fb9_9999_9999_999a ∷ []) ≡ None ∷ None ∷ Some 1 ∷ None ∷ None ∷ Some 4 ∷ None ∷ []
unfolding come_to eighths_of of_bits
small = refl

-- 13.875 and 30; 20,000 less an eighth, 20,000, the next float above, 20,000 and an eighth; the largest float
pub large : come_to (0x402b_c000_0000_0000 ∷ 0x403e_0000_0000_0000 ∷ 0x40d3_87f8_0000_0000 ∷ 0x40d3_8800_0000_0000 ∷ 0x40d3_8800_0000_0001 ∷ 0x40d3_8808_0000_0000 ∷ 0x7fef_ffff_ffff_ffff ∷ []) ≡ Some 111 ∷ Some 240 ∷ Some 159999 ∷ Some 160000 ∷ None ∷ None ∷ None ∷ []
unfolding come_to eighths_of of_bits
large = refl

-- a negative eighth, and the negative number nearest to zero; both infinities; three NaNs
pub others : come_to (0xbfc0_0000_0000_0000 ∷ 0x8000_0000_0000_0001 ∷ 0x7ff0_0000_0000_0000 ∷ 0xfff0_0000_0000_0000 ∷ 0x7ff8_0000_0000_0000 ∷ 0x7ff0_0000_0000_0001 ∷ 0xffff_ffff_ffff_ffff ∷ []) ≡ None ∷ None ∷ None ∷ None ∷ None ∷ None ∷ None ∷ []
unfolding come_to eighths_of of_bits
others = refl
