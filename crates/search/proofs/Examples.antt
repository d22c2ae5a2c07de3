-- The search's own numbers worked out, on the three signals of the method's examples: their pairs from the second are -4 and 6, 10 and 0, 5 and -5. Assumes nothing.
use mathlib.Core.Path.{◌≡◌, refl}
use mathlib.Core.List.{[], ◌∷◌}
use lib.IntN.{pos, negsuc}
use Rattle.circle.specs.Over.{all_below, over_below, list_below}
use Rattle.circle.proofs.Examples.Method.{three}
use Rattle.search.specs.Steps.{signed_of, anchor, pair_of, wider, rank_of, settled_of}

-- reds of 4, 5 and 6 less times of 0, 5 and 9, round a cycle of 20 halves
anchors : list_below 3 (anchor three) ≡ 4 ∷ 0 ∷ 17 ∷ []
unfolding list_below
anchors = refl

-- from anchor 0 to each anchor: the widths under both phases, raised by 20
row : pair_of 10 0 4 4 ∷ pair_of 10 0 0 5 ∷ pair_of 10 0 17 6 ∷ [] ≡ (16 ∷ 26 ∷ []) ∷ (30 ∷ 20 ∷ []) ∷ (25 ∷ 15 ∷ []) ∷ []
row = refl

larger : list_below 3 (wider ((16 ∷ 26 ∷ []) ∷ (30 ∷ 20 ∷ []) ∷ (25 ∷ 15 ∷ []) ∷ [])) ≡ 26 ∷ 30 ∷ 25 ∷ []
unfolding list_below
larger = refl

-- a limit that rests leaves the cycle under either phase; by the same row a candidate with a red ranks by its least, one that rests last; and where all do, B is the cycle
resting : pair_of 10 0 4 0 ∷ pair_of 10 17 3 0 ∷ [] ≡ (40 ∷ 40 ∷ []) ∷ (40 ∷ 40 ∷ []) ∷ []
resting = refl

ranks : rank_of 3 ((16 ∷ 26 ∷ []) ∷ (30 ∷ 20 ∷ []) ∷ (25 ∷ 15 ∷ []) ∷ []) 5 ∷ rank_of 3 ((16 ∷ 26 ∷ []) ∷ (30 ∷ 20 ∷ []) ∷ (25 ∷ 15 ∷ []) ∷ []) 0 ∷ [] ≡ pos 25 ∷ pos 0 ∷ []
unfolding over_below all_below
ranks = refl

settled : settled_of 10 25 ∷ settled_of 10 0 ∷ [] ≡ 25 ∷ 40 ∷ []
settled = refl

signed : signed_of three 25 ∷ signed_of three 16 ∷ [] ≡ pos 5 ∷ negsuc 3 ∷ []
signed = refl
