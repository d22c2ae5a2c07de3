-- Bands by their numbers, worked out. Assumes nothing.
use Prim.Native.Nat.{ℕ}
use mathlib.Core.Path.{◌≡◌, refl}
use mathlib.Core.List.{[], ◌∷◌}
use Rattle.circle.specs.Over.{first_below, all_below}
use Rattle.circle.specs.Bands.{Way, greatest_up_to, clear, stretch, width, band_start}
use Rattle.stretches.specs.Stretches.{band_of}
use Rattle.stretches.specs.Steps.{seen_by, left_by, longest_from, wider_of}
use Rattle.stretches.specs.declared.Band.{Band}

-- a width and its start
abbrev band : ℕ → ℕ → Band
band width start = record { width = width; start = start }

-- on a cycle of 20 halves a red of 4 ticks that ends at 3 leaves 12 from 3 on, 8 from 7 on and 1 from 14 on; it starts at 15, and until 3 it leaves nothing
lefts : left_by 20 3 3 4 ∷ left_by 20 7 3 4 ∷ left_by 20 14 3 4 ∷ left_by 20 15 3 4 ∷ left_by 20 2 3 4 ∷ [] ≡ 12 ∷ 8 ∷ 1 ∷ 0 ∷ 0 ∷ []
lefts = refl

-- a red of no length at 3 leaves all of it: as a limit it would leave 16 from 7 on, and 3 from 0 on
rests : left_by 20 7 3 0 ∷ left_by 20 0 3 0 ∷ [] ≡ 20 ∷ 20 ∷ []
rests = refl

-- the wider, and of two as wide the one that starts sooner, in either order
widers : wider_of (band 4 7) (band 5 9) ∷ wider_of (band 5 9) (band 4 7) ∷ wider_of (band 4 7) (band 4 3) ∷ wider_of (band 4 3) (band 4 7) ∷ [] ≡ band 5 9 ∷ band 5 9 ∷ band 4 3 ∷ band 4 3 ∷ []
unfolding wider_of
widers = refl

-- two signals on a cycle of 10 halves, with reds of 1 tick that end at 3 and at 7: 2 from 3 on, and 4 from 7 on
abbrev seen : Way
seen = seen_by 10 2 (λ j. 1) (3 ∷ 7 ∷ [])

longest : longest_from seen 3 ∷ longest_from seen 7 ∷ longest_from seen 1 ∷ [] ≡ 2 ∷ 4 ∷ 0 ∷ []
unfolding greatest_up_to all_below stretch clear
longest = refl

widest : band_of seen ≡ band 4 7
unfolding width band_start greatest_up_to stretch clear all_below first_below
widest = refl

-- reds of no length at the same instants: the whole cycle from 0, where a search from these alone would start at 3
widest_open : band_of (seen_by 10 2 (λ j. 0) (3 ∷ 7 ∷ [])) ≡ band 10 0
unfolding width band_start greatest_up_to stretch clear all_below first_below
widest_open = refl

-- a red of no length at 7 beside one of 1 tick that ends at 3: 8 from 3 on, of which the first as a limit would leave 4, and 4 from 7 on
abbrev beside : Way
beside = seen_by 10 2 (λ j. j) (7 ∷ 3 ∷ [])

longest-beside : longest_from beside 3 ∷ longest_from beside 7 ∷ [] ≡ 8 ∷ 4 ∷ []
unfolding greatest_up_to all_below stretch clear
longest-beside = refl

widest_beside : band_of beside ≡ band 8 3
unfolding width band_start greatest_up_to stretch clear all_below first_below
widest_beside = refl
