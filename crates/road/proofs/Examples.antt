-- Travel times worked out: what each definition comes to on small numbers, by computing alone. Assumes nothing.
use Prim.Native.Nat.{ℕ}
use mathlib.Core.Path.{◌≡◌, refl}
use mathlib.Core.Bool.{true, false}
use mathlib.Core.List.{List, [], ◌∷◌, map}
use Rattle.circle.specs.Over.{sum_below, list_below}
use Rattle.road.specs.Times.{ticks, whole, time_to, rounded_link, rounded_links}

-- at 1,000 mm/s a tick is 100 mm: 0.49, 0.50, 0.99, 1.49 and 1.50 ticks, one half going up
nearest_ticks : map (λ (d : ℕ). ticks d 1000) (49 ∷ 50 ∷ 99 ∷ 149 ∷ 150 ∷ []) ≡ 0 ∷ 1 ∷ 1 ∷ 1 ∷ 2 ∷ []
nearest_ticks = refl

wholes : map (λ (d : ℕ). whole d 1000) (99 ∷ 100 ∷ 150 ∷ []) ≡ false ∷ true ∷ false ∷ []
wholes = refl

-- two links of 50 mm take a tick each; 100 mm at once would take one tick
abbrev short : List ℕ
short = 0 ∷ 50 ∷ 100 ∷ []

each_link : list_below 3 (time_to short (1000 ∷ 1000 ∷ [])) ≡ 0 ∷ 1 ∷ 2 ∷ []
unfolding list_below sum_below
each_link = refl

-- links of 300, 600 and 800 mm, with each direction's speeds
abbrev distances : List ℕ
distances = 100 ∷ 400 ∷ 1000 ∷ 1800 ∷ []

abbrev outbound : List ℕ
outbound = 1000 ∷ 1500 ∷ 3000 ∷ []

abbrev inbound : List ℕ
inbound = 2000 ∷ 1000 ∷ 1000 ∷ []

-- 3, 4 and 2 2/3 ticks outbound, 1 1/2, 6 and 8 inbound
out_times : list_below 4 (time_to distances outbound) ≡ 0 ∷ 3 ∷ 7 ∷ 10 ∷ []
unfolding list_below sum_below
out_times = refl

back_times : list_below 4 (time_to distances inbound) ≡ 0 ∷ 2 ∷ 8 ∷ 16 ∷ []
unfolding list_below sum_below
back_times = refl

-- the first link is rounded inbound alone, the last outbound alone, the second in neither direction: m is 2
marks : list_below 3 (rounded_link distances outbound inbound) ≡ true ∷ false ∷ true ∷ []
unfolding list_below
marks = refl

m : rounded_links 4 distances outbound inbound ≡ 2
unfolding sum_below
m = refl
