-- Each check at the ends of what it lets pass, by its verdict's number or place, 0 where it passes; and what a call leaves in a lent list. Assumes nothing.
use Rattle.std.specs.Prelude.{Ok}
use Prim.Native.Nat.{ℕ}
use mathlib.Core.Path.{◌≡◌, refl}
use mathlib.Core.List.{List, [], ◌∷◌, map}
use Rattle.circle.specs.Over.{first_below}
use Rattle.street.specs.Codes.{code_of, place_of}
use Rattle.street.specs.Checks.{refuse, count_check, room_check, cycle_check, red_check, distance_check, speed_check, written}
use Rattle.street.specs.declared.Code.TheVariants.{Room}
use Rattle.street.specs.Verdicts.{Verdict}

-- signals, distances, outbound and inbound speeds: 1 and 32 signals pass; 0 and 33 do not, nor do a distance too few, an outbound speed too many and an inbound one too few
counts : map code_of (count_check 1 1 0 0 ∷ count_check 32 32 31 31 ∷ count_check 0 0 0 0 ∷ count_check 33 33 32 32 ∷ []) ≡ 0 ∷ 0 ∷ 2 ∷ 2 ∷ []
unfolding count_check
counts = refl

lengths : map code_of (count_check 3 3 2 2 ∷ count_check 3 2 2 2 ∷ count_check 3 3 3 2 ∷ count_check 3 3 2 1 ∷ []) ≡ 0 ∷ 2 ∷ 2 ∷ 2 ∷ []
unfolding count_check
lengths = refl

rooms : map (λ (room : ℕ). code_of (room_check 3 room)) (2 ∷ 3 ∷ 4 ∷ []) ≡ 3 ∷ 0 ∷ 0 ∷ []
unfolding room_check
rooms = refl

cycles : map (λ (cycle : ℕ). code_of (cycle_check cycle)) (9 ∷ 10 ∷ 6000 ∷ 6001 ∷ []) ≡ 4 ∷ 0 ∷ 0 ∷ 4 ∷ []
unfolding cycle_check
cycles = refl

-- on a cycle of 10 ticks reds of 9, 1 and 0 pass, 10 and 11 do not
reds : map (λ (l : List ℕ). place_of (red_check 10 l)) ((1 ∷ 9 ∷ []) ∷ (0 ∷ 0 ∷ []) ∷ (10 ∷ 9 ∷ []) ∷ (9 ∷ 0 ∷ 11 ∷ []) ∷ []) ≡ 0 ∷ 0 ∷ 1 ∷ 3 ∷ []
unfolding red_check first_below
reds = refl

-- 20 km pass and 1 mm more does not; a distance is above the one before it
distances : map (λ (l : List ℕ). place_of (distance_check l)) ((0 ∷ 20000000 ∷ []) ∷ (20000001 ∷ []) ∷ (5 ∷ 5 ∷ []) ∷ (5 ∷ 6 ∷ 4 ∷ []) ∷ []) ≡ 0 ∷ 1 ∷ 2 ∷ 3 ∷ []
unfolding distance_check first_below
distances = refl

-- 1,000 and 40,000 mm/s pass in either direction; one more or less does not, in either
speeds : map place_of (speed_check (1000 ∷ 40000 ∷ []) (40000 ∷ 1000 ∷ []) ∷ speed_check (1000 ∷ 40001 ∷ []) (1000 ∷ 1000 ∷ []) ∷ speed_check (1000 ∷ []) (999 ∷ []) ∷ []) ≡ 0 ∷ 2 ∷ 1 ∷ []
unfolding speed_check first_below
speeds = refl

-- two entries over a lent list of three sevens: the third stays, and a refusal leaves all
left : map (λ (v : Verdict). written v (1 ∷ 2 ∷ []) (7 ∷ 7 ∷ 7 ∷ [])) ((Ok tt) ∷ refuse Room 0 ∷ []) ≡ (1 ∷ 2 ∷ 7 ∷ []) ∷ (7 ∷ 7 ∷ 7 ∷ []) ∷ []
left = refl
