-- Signals that rest in green worked out (02, 2026-05): a crossing that rests between two signals, one red beside two signals that rest, and a street where every signal rests; and the crossing's numbers
-- by the method as 01 has it, which lets a red of no length cut the band. Assumes nothing.
use Prim.Native.Nat.{ℕ}
use mathlib.Core.Path.{◌≡◌, refl}
use mathlib.Core.Bool.{true, false}
use mathlib.Core.List.{List, [], ◌∷◌, map}
use lib.IntN.{pos}
use lib.ListN.{get_or}
use Rattle.circle.specs.Over.{first_below, all_below, over_below, list_below}
use Rattle.circle.specs.Method.{Timed, u, pair_width, b, B, reference, phase, offset, red_start}
use Rattle.circle.specs.Bands.{greatest_up_to, clear, stretch, width, band_start, outbound_way, inbound_way}
use Rattle.circle.specs.Moved.{g, in_range, chosen, outbound_lowering, inbound_lowering, lowered, other_width, found_width, platoon_width}
use Rattle.circle.proofs.Formulas.Former.{former_B, former_reference}

-- three signals on a cycle of 10 ticks, 20 halves, with their reds and the inbound time from the second to the first
abbrev pub street : List ℕ → ℕ → Timed
street reds back =
    record {
      cycle = 10;
      signals = 3;
      red = λ j. get_or reds j 0;
      outbound = λ j. get_or (0 ∷ 1 ∷ 2 ∷ []) j 0;
      inbound = λ j. get_or (0 ∷ back ∷ 5 ∷ []) j 0;
    }

-- the second signal is a crossing that rests
abbrev pub crossing : ℕ → Timed
crossing = street (2 ∷ 0 ∷ 3 ∷ [])

-- one red, the last; and none
abbrev pub one_red : Timed
one_red = street (0 ∷ 0 ∷ 3 ∷ []) 2

abbrev pub no_red : Timed
no_red = street (0 ∷ 0 ∷ 0 ∷ []) 2

-- B is the greatest of the first and the third signal's b, and the crossing is no limit to either: 12, where 01's method comes to 11. One red leaves what is beside it, and none leaves the cycle
greatest : map B (crossing 2 ∷ crossing 3 ∷ one_red ∷ no_red ∷ []) ≡ pos 12 ∷ pos 12 ∷ pos 14 ∷ pos 20 ∷ []
unfolding B b pair_width u over_below all_below
greatest = refl

former : map former_B (crossing 2 ∷ crossing 3 ∷ one_red ∷ no_red ∷ []) ≡ pos 11 ∷ pos 12 ∷ pos 13 ∷ pos 14 ∷ []
unfolding pair_width u over_below all_below
former = refl

-- the third signal has B; 01's method took the crossing for the reference. Where all rest it is the first
references : map reference (crossing 2 ∷ crossing 3 ∷ one_red ∷ no_red ∷ []) ≡ 2 ∷ 2 ∷ 2 ∷ 0 ∷ []
unfolding reference first_below B b pair_width u over_below all_below
references = refl

former_reference_lem : map former_reference (crossing 2 ∷ crossing 3 ∷ []) ≡ 1 ∷ 1 ∷ []
unfolding first_below pair_width u over_below all_below
former_reference_lem = refl

-- the crossing has phase 0, whichever of its widths is larger
phases : list_below 3 (phase (crossing 2) 2) ≡ 10 ∷ 0 ∷ 0 ∷ []
unfolding list_below phase pair_width u
phases = refl

offsets : map (λ s. list_below 3 (offset s (reference s))) (crossing 2 ∷ crossing 3 ∷ one_red ∷ no_red ∷ []) ≡ (13 ∷ 2 ∷ 0 ∷ []) ∷ (13 ∷ 1 ∷ 0 ∷ []) ∷ (3 ∷ 2 ∷ 0 ∷ []) ∷ (0 ∷ 19 ∷ 17 ∷ []) ∷ []
unfolding list_below offset phase reference first_below B b pair_width u over_below all_below
offsets = refl

-- g counts a signal that rests as the whole cycle
widest : map g (crossing 2 ∷ one_red ∷ no_red ∷ []) ≡ pos 14 ∷ pos 14 ∷ pos 20 ∷ []
unfolding g over_below all_below
widest = refl

-- a width of 14 lowers the reference outbound, and the first signal inbound; the crossing, which 01's formulas would lower by 2 and by 13, stays
lowerings : list_below 3 (outbound_lowering (crossing 3) 14) ∷ list_below 3 (inbound_lowering (crossing 2) 14) ∷ [] ≡ (0 ∷ 0 ∷ 2 ∷ []) ∷ (2 ∷ 0 ∷ 0 ∷ []) ∷ []
unfolding list_below outbound_lowering inbound_lowering chosen phase reference first_below B b pair_width u over_below all_below
lowerings = refl

-- where all rest the cycle is the only width in range, it leaves the cycle the other way and lowers nothing, and platoons that differ get it both ways
only : map (in_range no_red) (0 ∷ 1 ∷ 19 ∷ 20 ∷ 21 ∷ []) ≡ false ∷ false ∷ false ∷ true ∷ false ∷ []
unfolding in_range g B b pair_width u over_below all_below
only = refl

both : other_width no_red 20 ∷ platoon_width no_red 4 7 ∷ platoon_width no_red 50 50 ∷ [] ≡ 20 ∷ 20 ∷ 20 ∷ []
unfolding platoon_width found_width other_width g B b pair_width u over_below all_below
both = refl

still : list_below 3 (lowered no_red (outbound_lowering no_red 20)) ∷ list_below 3 (lowered no_red (inbound_lowering no_red 20)) ∷ [] ≡ (0 ∷ 19 ∷ 17 ∷ []) ∷ (0 ∷ 19 ∷ 17 ∷ []) ∷ []
unfolding list_below lowered offset outbound_lowering inbound_lowering chosen phase reference first_below B b pair_width u over_below all_below
still = refl

-- measured under the equal plan's offsets the crossing's bands are B, and where all rest they are the cycle from 0
bands : width (outbound_way (crossing 2) (offset (crossing 2) 2)) ∷ width (inbound_way (crossing 2) (offset (crossing 2) 2)) ∷ [] ≡ 12 ∷ 12 ∷ []
unfolding width greatest_up_to stretch clear all_below red_start offset phase pair_width u
bands = refl

whole : width (outbound_way no_red (offset no_red 0)) ∷ band_start (outbound_way no_red (offset no_red 0)) ∷ width (inbound_way no_red (λ j. j)) ∷ band_start (inbound_way no_red (λ j. j)) ∷ [] ≡ 20 ∷ 0 ∷ 20 ∷ 0 ∷ []
unfolding width band_start greatest_up_to stretch clear all_below first_below red_start offset phase pair_width u
whole = refl
