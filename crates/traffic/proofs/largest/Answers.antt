-- `traffic::largest` meets its contract: the quotient is the last volume whose product with the time of a vehicle is at most that of the width, so that it fits and the next does not; above 10,000 that one is
-- taken.
use Prim.Native.Nat.{◌-◌, ◌*◌, ◌/◌, ◌≤◌, ◌^◌}
use native.Mathlib.Omega.{arith}
use native.Mathlib.Nat.{mul-le-mul}
use Rattle.traffic.specs.Volumes.{half_hour}
use Rattle.traffic.proofs.VolumeLaws.{quotient, largest_part}
use Rattle.traffic.proofs.largest.Goals as goal

pub overflow_mul-each : goal.overflow_mul-each
overflow_mul-each c =
    let short : c.args.cycle ≤ 2 ^ 32 - 1 = omega arith in
    let near : c.args.headway ≤ 2 ^ 32 - 1 = omega arith in
    omega (arith, mul-le-mul short near)

pub returns : goal.returns
returns c =
    let a = c.args in
    let part = quotient (half_hour * a.width) (a.cycle * a.headway) (omega arith) in
    rw c.min.ensures (largest_part a.cycle a.headway a.width (half_hour * a.width / (a.cycle * a.headway)) part.0 part.1)
