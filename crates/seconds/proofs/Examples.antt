-- The definitions run on examples: nearest seconds with ties, going round the cycle, and a frame. Assumes nothing.
use Prim.Native.Nat.{ℕ}
use mathlib.Core.Path.{◌≡◌, refl}
use mathlib.Core.List.{[], ◌∷◌, map}
use Rattle.seconds.specs.Seconds.{nearest_second, second_of}

-- 10 and 30 halves are ties
nearest_second_lem : map nearest_second (0 ∷ 9 ∷ 10 ∷ 29 ∷ 30 ∷ 49 ∷ []) ≡ 0 ∷ 0 ∷ 1 ∷ 1 ∷ 2 ∷ 2 ∷ []
nearest_second_lem = refl

-- a cycle of 6 s: a start at 109 halves of 120 stays in second 5, one at 110 goes round to 0
around : map (λ (f : ℕ). second_of 60 0 f 10) (99 ∷ 100 ∷ 109 ∷ 110 ∷ 119 ∷ 0 ∷ []) ≡ 5 ∷ 0 ∷ 0 ∷ 0 ∷ 0 ∷ 1 ∷ []
unfolding second_of
around = refl

-- an offset of 10 and a red of 2 s start green at 30, in a frame of 15 at 15
in_frame : map (λ (frame : ℕ). second_of 60 frame 10 20) (0 ∷ 15 ∷ 25 ∷ []) ≡ 2 ∷ 1 ∷ 0 ∷ []
unfolding second_of
in_frame = refl
