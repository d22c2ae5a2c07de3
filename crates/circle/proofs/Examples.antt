-- Definitions worked out: what each comes to on small numbers, by computing alone. Here remainders and choices over indices; the method, moving width, bands,
-- resting signals and joined streets have their own files. Assumes nothing.
use Prim.Native.Nat.{ℕ}
use mathlib.Core.Path.{◌≡◌, refl}
use mathlib.Core.Bool.{Bool}
use mathlib.Core.List.{[], ◌∷◌, map}
use lib.Dec.{eqb, ltb}
use lib.IntN.{pos, negsuc}
use lib.ListN.{get_or}
use Rattle.circle.specs.Signed.{minℤ, maxℤ, or_zero}
use Rattle.circle.specs.Over.{nowhere, at, first_below, sum_below, all_below, over_below, least_below, least_where, greatest_where}
use Rattle.circle.specs.Man.{man}
pub mod Method
pub mod Moved
pub mod Bands
pub mod Resting
pub mod Joined

-- 23, 20, -3, -20 and -23 round a cycle of 20
remainders : map (man 20) (pos 23 ∷ pos 20 ∷ negsuc 2 ∷ negsuc 19 ∷ negsuc 22 ∷ []) ≡ 3 ∷ 0 ∷ 17 ∷ 0 ∷ 17 ∷ []
remainders = refl

-- of -4 and -2 the smaller and the larger, and of 7 and -1 what is left of each
order : minℤ (negsuc 3) (negsuc 1) ∷ maxℤ (negsuc 3) (negsuc 1) ∷ [] ≡ negsuc 3 ∷ negsuc 1 ∷ []
order = refl

left : or_zero (pos 7) ∷ or_zero (negsuc 0) ∷ [] ≡ 7 ∷ 0 ∷ []
left = refl

-- a number for each index below 4
abbrev given : ℕ → ℕ
given k = get_or (7 ∷ 3 ∷ 9 ∷ 3 ∷ []) k 0

sum : sum_below 3 given ≡ 19
unfolding sum_below
sum = refl

-- the least of all of them; and of those above 3, of those above 7 and of those above 9, of which there is none, the least and the greatest
ends : least_below 4 (λ k. pos (given k)) ≡ pos 3
unfolding over_below all_below
ends = refl

abbrev above : ℕ → ℕ → Bool
above n k = ltb n (given k)

least_of : map (λ n. least_where (pos 8) 4 (above n) (λ k. pos (given k))) (3 ∷ 7 ∷ 9 ∷ []) ≡ pos 7 ∷ pos 9 ∷ pos 8 ∷ []
unfolding over_below all_below
least_of = refl

greatest_of : map (λ n. greatest_where (pos 8) 4 (above n) (λ k. pos (given k))) (0 ∷ 7 ∷ 9 ∷ []) ≡ pos 9 ∷ pos 9 ∷ pos 8 ∷ []
unfolding over_below all_below
greatest_of = refl

-- the first 3 is at index 1, and there is no 8
searches : first_below 4 (λ k. eqb (given k) 3) ∷ first_below 4 (λ k. eqb (given k) 8) ∷ [] ≡ at 1 ∷ nowhere ∷ []
unfolding first_below
searches = refl
