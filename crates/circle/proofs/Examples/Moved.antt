-- Moving width worked out, on the streets of the method's examples: B is 5 and g is 8 at three signals, and at two B is -1 and g is 2. Assumes nothing.
use mathlib.Core.Path.{◌≡◌, refl}
use mathlib.Core.Bool.{true, false}
use mathlib.Core.List.{[], ◌∷◌, map}
use lib.IntN.{pos}
use lib.ListN.{get_or}
use Rattle.circle.specs.Over.{first_below, all_below, over_below, list_below}
use Rattle.circle.specs.Method.{Timed, u, pair_width, b, B, reference, phase, offset}
use Rattle.circle.specs.Moved.{g, in_range, chosen, outbound_lowering, inbound_lowering, lowered, other_width, found_width, platoon_width}
use Rattle.circle.proofs.Formulas.Paper.{Amended, paper_width}
use Rattle.circle.proofs.Examples.Method.{three, two}

widest : g three ∷ g (two 2 2) ∷ [] ≡ pos 8 ∷ pos 2 ∷ []
unfolding g over_below all_below
widest = refl

-- from B to g, and from 1 to g where B is below 1
range : map (in_range three) (4 ∷ 5 ∷ 8 ∷ 9 ∷ []) ≡ false ∷ true ∷ true ∷ false ∷ []
unfolding in_range g B b pair_width u over_below all_below
range = refl

range_from_1 : map (in_range (two 2 2)) (0 ∷ 1 ∷ 2 ∷ 3 ∷ []) ≡ false ∷ true ∷ true ∷ false ∷ []
unfolding in_range g B b pair_width u over_below all_below
range_from_1 = refl

us : list_below 3 (chosen three) ≡ 14 ∷ 20 ∷ 17 ∷ []
unfolding list_below chosen phase reference first_below B b pair_width u over_below all_below
us = refl

-- by how much each offset of 11, 0 and 2 is lowered for a width of 8, outbound and inbound
outbound : list_below 3 (outbound_lowering three 8) ≡ 0 ∷ 3 ∷ 0 ∷ []
unfolding list_below outbound_lowering chosen phase reference first_below B b pair_width u over_below all_below
outbound = refl

inbound : list_below 3 (inbound_lowering three 8) ≡ 2 ∷ 0 ∷ 3 ∷ []
unfolding list_below inbound_lowering chosen phase reference first_below B b pair_width u over_below all_below
inbound = refl

moved : list_below 3 (lowered three (outbound_lowering three 8)) ≡ 11 ∷ 17 ∷ 2 ∷ []
unfolding list_below lowered offset outbound_lowering chosen phase reference first_below B b pair_width u over_below all_below
moved = refl

-- beside 8 of 2B = 10 there is 2 left, beside 11 nothing, and nothing beside any width where B is below 0
others : other_width three 8 ∷ other_width three 11 ∷ other_width (two 2 2) 1 ∷ [] ≡ 2 ∷ 0 ∷ 0 ∷ []
unfolding other_width B b pair_width u over_below all_below
others = refl

-- platoons of 4 and 3 within 10: 10 · 4/7 = 5.7; of 9 and 1: 9, but at most 8. Above 10, of 7 and 5: 7; of 20 and 10: at most 8; and where 1 would leave the other side nothing, g
platoons : platoon_width three 4 7 ∷ platoon_width three 9 10 ∷ platoon_width three 7 12 ∷ platoon_width three 20 30 ∷ platoon_width (two 2 2) 1 1 ∷ [] ≡ 5 ∷ 8 ∷ 7 ∷ 8 ∷ 2 ∷ []
unfolding platoon_width found_width other_width g B b pair_width u over_below all_below
platoons = refl

-- 02, 2026-02, on its school street: a cycle of 600 ticks, two reds of 400, 150 ticks each way, so that B is 100 and g is 400
abbrev pub school : Timed
school =
    record {
      cycle = 600;
      signals = 2;
      red = λ j. 400;
      outbound = λ j. get_or (0 ∷ 150 ∷ []) j 0;
      inbound = λ j. get_or (0 ∷ 150 ∷ []) j 0;
    }

-- 50 and 0 fit into 2B = 200 and have all of it; above 2B a platoon has its length, at most g
found : found_width school 50 50 ∷ found_width school 199 201 ∷ found_width school 500 501 ∷ [] ≡ 200 ∷ 199 ∷ 400 ∷ []
unfolding found_width g B b pair_width u over_below all_below
found = refl

-- 50 and 0 leave nothing of 2B, so g; 199 and 1 leave 1; above 2B 199 and 2 leave 1, and 200 and 1 nothing
one_sided : platoon_width school 50 50 ∷ platoon_width school 199 200 ∷ platoon_width school 199 201 ∷ platoon_width school 200 201 ∷ [] ≡ 400 ∷ 199 ∷ 199 ∷ 400 ∷ []
unfolding platoon_width found_width other_width g B b pair_width u over_below all_below
one_sided = refl

-- the paper's rule has 200 for the first of them, where alone it differs
paper : paper_width school 50 50 ∷ paper_width school 199 200 ∷ paper_width school 199 201 ∷ paper_width school 200 201 ∷ [] ≡ 200 ∷ 199 ∷ 199 ∷ 400 ∷ []
unfolding paper_width other_width g B b pair_width u over_below all_below
paper = refl

amended : Amended school 50 50
unfolding g B b pair_width u over_below all_below
amended = (refl, refl, refl)
