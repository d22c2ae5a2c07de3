-- Rounding to the nearest tick, and what m counts. A link's time is the nearest number of ticks, and no other number is. In a unit of N to the half in which a link's exact time is whole, its rounded time is at most N away from the exact one: half a
-- tick. Where 10d/v is whole the two are equal. A link that either direction rounded is marked, so each direction's two times are apart by N at most where the mark counts 1, and
-- by nothing where it counts 0. Assumes nothing.
use Prim.Native.Nat.{ℕ, ◌+◌, ◌-◌, ◌*◌, ◌/◌, ◌%◌, ◌≤◌, ◌<◌}
use mathlib.Core.Path.{◌≡◌, refl, sym, ap, ◌∙◌}
use mathlib.Core.Bool.{Bool, true, false, cond, not}
use mathlib.Core.List.{List}
use native.Mathlib.Omega.{arith}
use native.Mathlib.Decide.{ℕ_discrete}
use native.Mathlib.Nat.{mod-lt, mod-add-div', mul-le-mul_left, le_of_mul-le-mul_right, eq_of_mul-eq-mul_right, div-eq_of_lt-le}
use lib.ListN.{get_or}
use borrow.Author.Tests.{ne_eqb}
use Rattle.circle.specs.Over.{◌or◌}
use Rattle.road.specs.Times.{ticks, Nearest, whole, link_length, link_ticks, rounded_link}

-- how far two numbers are apart
abbrev pub apart : ℕ → ℕ → ℕ
apart a b = a - b + (b - a)

-- a link's time is the nearest number of ticks
pub nearest : (d v : ℕ) → 0 < v → Nearest d v (ticks d v)
nearest d v some =
    let two : 0 < 2 * v = omega arith in
    let less = mod-lt (20 * d + v) two in
    let split = mod-add-div' (20 * d + v) (2 * v) in
    record { least = omega arith; below = omega arith }

-- and there is just one such number
pub nearest_only : (d v t : ℕ) → Nearest d v t → t ≡ ticks d v
nearest_only d v t near = sym (div-eq_of_lt-le (2 * v) (omega (arith, near.least)) (omega (arith, near.below)))

-- a rounded time T and an exact one X, with p for 20d: twice T in units, and X, are at most N apart
near : (N p v T X : ℕ) → 0 < v → X * v ≡ p * N → T * (2 * v) ≤ p + v → p ≤ T * (2 * v) + v → (2 * (N * T) ≤ X + N) × (X ≤ 2 * (N * T) + N)
near N p v T X some e low high =
    let l = mul-le-mul_left N low in
    let h = mul-le-mul_left N high in
    let a : 2 * (N * T) * v ≤ (X + N) * v = omega arith in
    let b : X * v ≤ (2 * (N * T) + N) * v = omega arith in
    (le_of_mul-le-mul_right a some, le_of_mul-le-mul_right b some)

-- and equal where 10d/v is whole
even : (N d v q X : ℕ) → 0 < v → X * v ≡ 20 * d * N → q * v ≡ 10 * d → X ≡ 2 * (N * ticks d v)
even N d v q X some e whole =
    let t = nearest_only d v q (record { least = omega arith; below = omega arith }) in
    let f : 20 * d * N ≡ 2 * (N * (q * v)) = omega (arith, ap (λ (z : ℕ). N * z) whole) in
    let g : X * v ≡ 2 * (N * q) * v = omega arith in
    eq_of_mul-eq-mul_right v some X (2 * (N * q)) g ∙ ap (λ (z : ℕ). 2 * (N * z)) (omega (arith, t))

-- a link: what rounding adds and what it drops, N at most where the link counts as rounded and nothing where it does not
link : (N d v : ℕ) (mark : Bool) → 0 < v → 20 * d * N % v ≡ 0 → (whole d v ≡ false → mark ≡ true) → apart (2 * (N * ticks d v)) (20 * d * N / v) ≤ N * cond mark 1 0
link N d v mark some fine marked = go (ℕ_discrete (10 * d % v) 0)
  where
    times : 20 * d * N / v * v ≡ 20 * d * N
    times = omega (arith, mod-add-div' (20 * d * N) v, fine)

    go : Dec (10 * d % v ≡ 0) → apart (2 * (N * ticks d v)) (20 * d * N / v) ≤ N * cond mark 1 0
    go (yes e) =
        let same = even N d v (10 * d / v) (20 * d * N / v) some times (omega (arith, mod-add-div' (10 * d) v)) in
        omega arith
    go (no e) =
        let closest = nearest d v some in
        let (low, high) = near N (20 * d) v (ticks d v) (20 * d * N / v) some times (omega (arith, closest.least)) (omega (arith, closest.below)) in
        let one : N * cond mark 1 0 ≡ N * 1 = ap (λ t. N * cond t 1 0) (marked (ne_eqb (10 * d % v) 0 e)) in
        omega arith

mark_left : (p q : Bool) → p ≡ false → (not p or q) ≡ true
mark_left true q e = let z : ◌≡◌ {A = ℕ} 0 1 = cc in absurd (omega arith)
mark_left false q e = refl

mark_right : (p q : Bool) → q ≡ false → (p or not q) ≡ true
mark_right true q e = refl
mark_right false true e = sym e
mark_right false false e = refl

-- link k of a street, in a direction whose rounding the one mark counts that m counts
module _ (distances outbound inbound : List ℕ) (N k : ℕ) where
  pub Marked : ℕ → Type 0
  Marked speed = whole (link_length distances k) speed ≡ false → rounded_link distances outbound inbound k ≡ true

  pub link_near : (speeds : List ℕ) → Marked (get_or speeds k 0) → 0 < get_or speeds k 0 → 20 * link_length distances k * N % get_or speeds k 0 ≡ 0 → apart (2 * (N * link_ticks distances speeds k)) (20 * link_length distances k * N / get_or speeds k 0) ≤ N * cond (rounded_link distances outbound inbound k) 1 0
  unfolding Marked
  link_near speeds marked some fine = link N (link_length distances k) (get_or speeds k 0) _ some fine marked

  -- outbound and inbound are such directions
  pub out_marked : Marked (get_or outbound k 0)
  unfolding Marked
  out_marked =
      mark_left (whole (link_length distances k) (get_or outbound k 0)) (not (whole (link_length distances k) (get_or inbound k 0)))

  pub back_marked : Marked (get_or inbound k 0)
  unfolding Marked
  back_marked =
      mark_right (not (whole (link_length distances k) (get_or outbound k 0))) (whole (link_length distances k) (get_or inbound k 0))
