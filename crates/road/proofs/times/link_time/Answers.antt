-- One division does for both answers: what it leaves says which whole number is the nearest, and whether the time was whole.
use Prim.Native.Nat.{ℕ, ◌+◌, ◌-◌, ◌*◌, ◌/◌, ◌%◌, ◌≤◌, ◌<◌}
use mathlib.Core.Path.{◌≡◌, sym, ap, subst}
use native.Mathlib.Omega.{arith}
use native.Mathlib.Nat.{mod-lt, mod-add-div'}
use lib.Dec.{eqb}
use Rattle.road.specs.Times.{Nearest}
use Rattle.road.proofs.Nearest.{nearest_only}
use Rattle.road.proofs.times.link_time.Goals as goal
use Rattle.road.proofs.times.link_time.Goals.{then-rest-speed, else-rest-speed}

-- what the division leaves
left : (d v : ℕ) → 10 * d - 10 * d / v * v ≡ 10 * d % v
left d v = omega (arith, mod-add-div' (10 * d) v)

up : (d v : ℕ) → 0 < v → v ≤ 2 * (10 * d - 10 * d / v * v) → Nearest d v (10 * d / v + 1)
up d v some much =
    let less = mod-lt (10 * d) some in
    let split = mod-add-div' (10 * d) v in
    record { least = omega (arith, left d v); below = omega (arith, left d v) }

down : (d v : ℕ) → 0 < v → 2 * (10 * d - 10 * d / v * v) < v → Nearest d v (10 * d / v)
down d v some little =
    let split = mod-add-div' (10 * d) v in
    record { least = omega (arith, left d v); below = omega (arith, left d v) }

pub returns : goal.returns
returns c =
    let d = c.args.length in
    let v = c.args.speed in
    let some : 0 < v = omega arith in
    let is : Nearest d v c.if-rest-speed.result =
    elim c.if-rest-speed.branch [
      | then-rest-speed w ↦ subst (Nearest d v) (sym w.result-is) (up d v some w.if-rest-speed.true)
      | else-rest-speed w ↦ subst (Nearest d v) (sym w.result-is) (down d v some w.if-rest-speed.false)
    ] in
    (nearest_only d v c.if-rest-speed.result is, ap (λ (r : ℕ). eqb r 0) (left d v))
