-- Laws of travel times: a link's time is small, and one more link adds its time to a sum or its mark to a count. Assumes nothing.
use Prim.Native.Nat.{ℕ, zero, suc, ◌+◌, ◌*◌, ◌/◌, ◌≤◌, ◌<◌}
use mathlib.Core.Path.{◌≡◌, sym, ap₂, ◌∙◌}
use mathlib.Core.Bool.{Bool, true, false, cond}
use mathlib.Core.List.{List}
use native.Mathlib.Omega.{arith}
use native.Mathlib.Nat.{div-lt_iff_lt-mul}
use lib.ListN.{length, get_or}
use Rattle.circle.specs.Over.{sum_below, count_below}
use Rattle.circle.proofs.Numbers.{sum_more}
use Rattle.road.specs.Limits.{max_distance, min_speed}
use Rattle.road.specs.Times.{ticks, link_length, link_ticks, time_to}
use Rattle.road.specs.Steps.{max_link_time, Driveable}

pub ticks_small : (d v : ℕ) → d ≤ max_distance → min_speed ≤ v → ticks d v ≤ max_link_time
ticks_small d v near slow =
    let some : 0 < 2 * v = omega arith in
    let l : 20 * d + v < suc max_link_time * (2 * v) = omega arith in
    let r : (20 * d + v) / (2 * v) < suc max_link_time = (div-lt_iff_lt-mul some).1 l in
    omega arith

module _ (distances speeds : List ℕ) (driveable : Driveable distances speeds) (k : ℕ) (l : k < length speeds) where
  pub link_near : link_length distances k ≤ max_distance
  link_near = omega (arith, driveable.near k l)

  pub time_small : link_ticks distances speeds k ≤ max_link_time
  time_small = ticks_small (link_length distances k) (get_or speeds k 0) link_near (driveable.slow k l)

-- one more link adds its part to a sum: its time, or its mark
pub sum_step : (f : ℕ → ℕ) (k sum part : ℕ) → sum ≡ sum_below k f → part ≡ f k → sum + part ≡ sum_below (k + 1) f
sum_step f k sum part e g = ap₂ ◌+◌ e g ∙ sym (sum_more k f)

pub mark_small : (t : Bool) → cond t 1 0 ≤ 1
mark_small true = omega arith
mark_small false = omega arith

-- so a sum over some links, and a count of them, are at most that many times as large
pub time_far : (ds vs : List ℕ) → Driveable ds vs → (j : ℕ) → j ≤ length vs → time_to ds vs j ≤ max_link_time * j
unfolding sum_below
time_far ds vs ok zero l = omega arith
time_far ds vs ok (suc j) l =
    omega (arith, time_far ds vs ok j (omega arith), time_small ds vs ok j (omega arith))

pub count_small : (n : ℕ) (test : ℕ → Bool) → count_below n test ≤ n
unfolding sum_below
count_small zero test = omega arith
count_small (suc n) test = omega (arith, count_small n test, mark_small (test n))
