-- Offsets worked out, on the three signals of the method's examples: the reference is the second, at place 0 with B = 5, raised 25; the others stand at 4 and 17. Assumes nothing.
use mathlib.Core.Path.{◌≡◌, refl}
use mathlib.Core.List.{[], ◌∷◌}
use Rattle.circle.specs.Over.{first_below, list_below, all_below, over_below}
use Rattle.circle.specs.Method.{u, pair_width, b, B, reference, phase, offset}
use Rattle.circle.specs.Moved.{chosen, outbound_lowering, inbound_lowering, lowered}
use Rattle.circle.proofs.Examples.Method.{three}
use Rattle.widths.specs.declared.Shift.TheVariants.{Unmoved, Outbound, Inbound}
use Rattle.offsets.specs.Moved.{moved_offset}
use Rattle.offsets.specs.Steps.{choice_of, lowering_of, offset_at}

-- the equal plan, 8 for the outbound band, and 8 for the inbound one
equal : list_below 3 (moved_offset Unmoved three) ≡ 11 ∷ 0 ∷ 2 ∷ []
unfolding list_below lowered offset phase reference first_below B b pair_width u over_below all_below
equal = refl

outbound : list_below 3 (moved_offset (Outbound 8) three) ≡ 11 ∷ 17 ∷ 2 ∷ []
unfolding list_below lowered outbound_lowering chosen offset phase reference first_below B b pair_width u over_below all_below
outbound = refl

inbound : list_below 3 (moved_offset (Inbound 8) three) ≡ 9 ∷ 0 ∷ 19 ∷ []
unfolding list_below lowered inbound_lowering chosen offset phase reference first_below B b pair_width u over_below all_below
inbound = refl

-- the better phase of each signal, and its u
choices : choice_of 10 0 4 4 ∷ choice_of 10 0 17 6 ∷ [] ≡ record { phase = 10; u = 14 } ∷ record { phase = 0; u = 17 } ∷ []
choices = refl

-- how far the reference's offset is lowered for 8 outbound, and the third signal's for 8 inbound; nothing where the difference is negative
lowerings : lowering_of (Outbound 8) 25 5 20 ∷ lowering_of (Inbound 8) 25 6 17 ∷ lowering_of (Outbound 8) 25 6 14 ∷ lowering_of (Inbound 8) 25 5 20 ∷ lowering_of Unmoved 25 6 17 ∷ [] ≡ 3 ∷ 3 ∷ 0 ∷ 0 ∷ 0 ∷ []
lowerings = refl

-- the first signal's offset, and the third's, which goes round the cycle
written : offset_at 10 25 (Inbound 8) 0 4 4 3 2 ∷ offset_at 10 25 (Inbound 8) 0 17 6 8 6 ∷ [] ≡ 9 ∷ 19 ∷ []
written = refl
