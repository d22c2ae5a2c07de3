-- The method worked out: its formulas at three signals with unlike reds and times, where B is above 0, and at two, where it is below. Assumes nothing.
use Prim.Native.Nat.{ℕ}
use mathlib.Core.Path.{◌≡◌, refl}
use mathlib.Core.List.{[], ◌∷◌}
use lib.IntN.{pos, negsuc}
use lib.ListN.{get_or}
use Rattle.circle.specs.Over.{first_below, all_below, over_below, list_below}
use Rattle.circle.specs.Method.{Timed, t, t', u, pair_width, b, B, reference, phase, offset, equal_width, in_units}

-- three signals on a cycle of 10 ticks, 20 halves
abbrev pub three : Timed
three =
    record {
      cycle = 10;
      signals = 3;
      red = λ j. get_or (4 ∷ 5 ∷ 6 ∷ []) j 0;
      outbound = λ j. get_or (0 ∷ 2 ∷ 5 ∷ []) j 0;
      inbound = λ j. get_or (0 ∷ 3 ∷ 4 ∷ []) j 0;
    }

-- two signals on the same cycle, with the times between them
abbrev pub two : ℕ → ℕ → Timed
two out back =
    record {
      cycle = 10;
      signals = 2;
      red = λ j. get_or (9 ∷ 8 ∷ []) j 0;
      outbound = λ j. get_or (0 ∷ out ∷ []) j 0;
      inbound = λ j. get_or (0 ∷ back ∷ []) j 0;
    }

-- times from the second of three signals: outbound negative to the one before it, inbound to the one after it
times : t three 1 0 ∷ t three 1 2 ∷ t' three 1 0 ∷ t' three 1 2 ∷ [] ≡ negsuc 1 ∷ pos 3 ∷ pos 3 ∷ negsuc 0 ∷ []
times = refl

-- u under phase 0 and under the other; and a trajectory that touches has H, one half off it 19 or 1
us : list_below 3 (λ j. u three 1 j 0) ≡ 4 ∷ 20 ∷ 17 ∷ []
unfolding list_below u
us = refl

us' : list_below 3 (λ j. u three 1 j 10) ≡ 14 ∷ 10 ∷ 7 ∷ []
unfolding list_below u
us' = refl

touching : u (two 4 5) 0 1 10 ∷ u (two 4 6) 0 1 10 ∷ u (two 4 4) 0 1 10 ∷ [] ≡ 20 ∷ 19 ∷ 1 ∷ []
unfolding u
touching = refl

-- the widths of the second signal's pairs under phase 0, and each signal's b
pairs : list_below 3 (λ j. pair_width three 1 j 0) ≡ negsuc 3 ∷ pos 10 ∷ pos 5 ∷ []
unfolding list_below pair_width u
pairs = refl

bs : list_below 3 (b three) ≡ pos 1 ∷ pos 5 ∷ pos 3 ∷ []
unfolding list_below b pair_width u over_below all_below
bs = refl

-- B is the greatest of them, and the second signal has it; of two signals with b = -1 and b = -3 both directions report 0
greatest : B three ∷ B (two 2 2) ∷ [] ≡ pos 5 ∷ negsuc 0 ∷ []
unfolding B b pair_width u over_below all_below
greatest = refl

reported : reference three ∷ equal_width three ∷ reference (two 2 2) ∷ equal_width (two 2 2) ∷ [] ≡ 1 ∷ 5 ∷ 0 ∷ 0 ∷ []
unfolding reference equal_width first_below B b pair_width u over_below all_below
reported = refl

phases : list_below 3 (phase three 1) ≡ 10 ∷ 0 ∷ 0 ∷ []
unfolding list_below phase pair_width u
phases = refl

offsets : list_below 3 (offset three 1) ≡ 11 ∷ 0 ∷ 2 ∷ []
unfolding list_below offset phase pair_width u
offsets = refl

-- counted in thirds everything is three times as long
thirds : list_below 3 (b (in_units 3 three)) ≡ pos 3 ∷ pos 15 ∷ pos 9 ∷ []
unfolding list_below b pair_width u over_below all_below
thirds = refl
