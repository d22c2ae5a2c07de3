-- `offsets::offset_at` meets its contract: the phase and the lowering join the offset's two sides, and no sum wraps.
use Prim.Native.Nat.{◌+◌, ◌*◌, ◌≤◌}
use mathlib.Core.Path.{ap}
use native.Mathlib.Omega.{arith}
use Rattle.street.specs.Limits.{max_cycle}
use Rattle.street.specs.Steps.{max_halves}
use Rattle.widths.specs.Steps.{shift_width}
use Rattle.offsets.proofs.OffsetLaws.{choice_small, lowering_small, offset_parts}
use Rattle.offsets.proofs.offset_at.Goals as goal

pub lowered_by-down-requires : goal.lowered_by-down-requires
lowered_by-down-requires c =
    let near : (c.better_phase-better.result.phase ≤ max_cycle) × (c.better_phase-better.result.u ≤ max_halves) =
    let a = c.args in
    let small = choice_small a.cycle a.from a.to a.red c.requires.0 c.requires.4 in
    omega (arith, ap (λ x. x.phase) c.better_phase-better.ensures, ap (λ x. x.u) c.better_phase-better.ensures, c.requires.1) in
    omega (arith, near)

pub overflow_add-ahead : goal.overflow_add-ahead
overflow_add-ahead c =
    let near : (c.better_phase-better.result.phase ≤ max_cycle) × (c.better_phase-better.result.u ≤ max_halves) =
    let a = c.args in
    let small = choice_small a.cycle a.from a.to a.red c.requires.0 c.requires.4 in
    omega (arith, ap (λ x. x.phase) c.better_phase-better.ensures, ap (λ x. x.u) c.better_phase-better.ensures, c.requires.1) in
    omega (arith, near)

pub overflow_add-behind : goal.overflow_add-behind
overflow_add-behind c =
    let near : (c.better_phase-better.result.phase ≤ max_cycle) × (c.better_phase-better.result.u ≤ max_halves) =
    let a = c.args in
    let small = choice_small a.cycle a.from a.to a.red c.requires.0 c.requires.4 in
    omega (arith, ap (λ x. x.phase) c.better_phase-better.ensures, ap (λ x. x.u) c.better_phase-better.ensures, c.requires.1) in
    let low : c.lowered_by-down.result ≤ shift_width c.args.shift + c.better_phase-better.result.u + 2 * c.args.red =
    let a = c.args in
    omega (arith, c.lowered_by-down.ensures, lowering_small a.raised a.red c.better_phase-better.result.u a.shift) in
    omega (arith, low, near)

pub remainder-requires : goal.remainder-requires
remainder-requires c =
    let near : (c.better_phase-better.result.phase ≤ max_cycle) × (c.better_phase-better.result.u ≤ max_halves) =
    let a = c.args in
    let small = choice_small a.cycle a.from a.to a.red c.requires.0 c.requires.4 in
    omega (arith, ap (λ x. x.phase) c.better_phase-better.ensures, ap (λ x. x.u) c.better_phase-better.ensures, c.requires.1) in
    omega (arith, near)

pub returns : goal.returns
returns c =
    let a = c.args in
    let found = c.better_phase-better in
    let lowers = c.lowered_by-down in
    offset_parts a.cycle a.raised a.shift a.from a.to a.red a.ahead a.behind found.result lowers.result c.remainder.result
    found.ensures lowers.ensures c.remainder.ensures
