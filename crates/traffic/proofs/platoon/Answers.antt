-- `traffic::platoon` meets its contract: what was judged makes a product of at most 6·10⁹, so that nothing wraps in 64 bits and the platoon fits 32.
use Prim.Native.Nat.{◌*◌, ◌≤◌}
use native.Mathlib.Omega.{arith}
use Rattle.street.specs.Limits.{max_cycle, max_volume, max_headway}
use Rattle.traffic.proofs.VolumeLaws.{product_small}
use Rattle.traffic.proofs.platoon.Goals as goal

pub overflow_mul-product : goal.overflow_mul-product
overflow_mul-product c =
    let small : (c.args.volume * c.args.cycle ≤ max_volume * max_cycle) × (c.args.volume * c.args.cycle * c.args.headway ≤ max_volume * max_cycle * max_headway) = product_small c.args.cycle c.args.headway c.args.volume c.requires.0 c.requires.1 c.requires.2 in
    omega (arith, small)

pub overflow_mul-product-2 : goal.overflow_mul-product-2
overflow_mul-product-2 c =
    let small : (c.args.volume * c.args.cycle ≤ max_volume * max_cycle) × (c.args.volume * c.args.cycle * c.args.headway ≤ max_volume * max_cycle * max_headway) = product_small c.args.cycle c.args.headway c.args.volume c.requires.0 c.requires.1 c.requires.2 in
    omega (arith, small)

pub overflow_cast-result : goal.overflow_cast-result
overflow_cast-result c =
    let small : (c.args.volume * c.args.cycle ≤ max_volume * max_cycle) × (c.args.volume * c.args.cycle * c.args.headway ≤ max_volume * max_cycle * max_headway) = product_small c.args.cycle c.args.headway c.args.volume c.requires.0 c.requires.1 c.requires.2 in
    omega (arith, small)
