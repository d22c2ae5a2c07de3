-- Volumes and platoons worked out, at and beside the ends of each range and each step of rounding. Assumes nothing.
use Prim.Native.Nat.{ℕ}
use mathlib.Core.Path.{◌≡◌, refl}
use mathlib.Core.List.{[], ◌∷◌, map}
use native.Mathlib.Omega.{arith}
use Rattle.street.specs.Codes.{code_of, place_of}
use Rattle.traffic.specs.Volumes.{platoon_of, Largest}
use Rattle.traffic.specs.Checks.{volume_check}

-- at C 650 and h 20, the paper's 65 s and 2 s: 400 vehicles an hour are 288 8/9 halves, 200 are 144 4/9, 600 are 433 1/3 and 850 are 613 8/9
paper : map (platoon_of 650 20) (0 ∷ 200 ∷ 400 ∷ 600 ∷ 850 ∷ []) ≡ 0 ∷ 145 ∷ 289 ∷ 434 ∷ 614 ∷ []
paper = refl

-- at C 100 and h 20 nine vehicles an hour are a half: 900 are 100 halves and not one more, 901 are 101
whole : map (platoon_of 100 20) (1 ∷ 9 ∷ 10 ∷ 899 ∷ 900 ∷ 901 ∷ []) ≡ 1 ∷ 1 ∷ 2 ∷ 100 ∷ 100 ∷ 101 ∷ []
whole = refl

-- the longest cycle and headway: 3,000 vehicles an hour are 100,000 halves, 3,001 are more
longest : map (platoon_of 6000 100) (3000 ∷ 3001 ∷ 10000 ∷ []) ≡ 100000 ∷ 100034 ∷ 333334 ∷ []
longest = refl

-- the largest volume of a width by its meaning, at C 100 and h 20: 801 and no more go into 89 halves, 279 into 31, 540 into 60 and 0 into none
pub into_89 : Largest 100 20 89 801
into_89 = record { most = omega arith; fits = omega arith; next = λ l. omega arith }

pub into_31 : Largest 100 20 31 279
into_31 = record { most = omega arith; fits = omega arith; next = λ l. omega arith }

pub into_60 : Largest 100 20 60 540
into_60 = record { most = omega arith; fits = omega arith; next = λ l. omega arith }

into_none : Largest 100 20 0 0
into_none = record { most = omega arith; fits = omega arith; next = λ l. omega arith }

-- at a headway of 1 all 10,000 go into 60, and nothing is asked of a next one
pub all_into_60 : Largest 100 1 60 10000
all_into_60 = record { most = omega arith; fits = omega arith; next = λ l. absurd (omega arith) }

-- 10,000 passes and 10,001 does not, outbound judged first; a headway of 1 and 100 passes, 0 and 101 do not, and is judged last
codes : map (λ (h : ℕ). code_of (volume_check 10000 10000 h)) (0 ∷ 1 ∷ 100 ∷ 101 ∷ []) ≡ 11 ∷ 0 ∷ 0 ∷ 11 ∷ []
unfolding volume_check
codes = refl

places : map place_of (volume_check 10001 10001 0 ∷ volume_check 10000 10001 0 ∷ volume_check 10000 10000 0 ∷ volume_check 0 0 101 ∷ []) ≡ 1 ∷ 2 ∷ 3 ∷ 3 ∷ []
unfolding volume_check
places = refl
