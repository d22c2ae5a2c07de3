-- `offsets::better_phase` meets its contract: the wider of the pair, and what is taken from it does not go below 0.
use native.Mathlib.Omega.{arith}
use lib.ListN.{get_or}
use Rattle.offsets.proofs.OffsetLaws.{HasU, has_us, choice_even, choice_odd}
use Rattle.offsets.proofs.better_phase.Goals as goal

pub overflow_add-result : goal.overflow_add-result
overflow_add-result c =
    let even : HasU c.args.cycle c.args.red (get_or c.pair-w.result 0 0) =
    let a = c.args in
    (has_us a.cycle a.from a.to a.red c.pair-w.result c.requires.0 c.requires.4 c.pair-w.ensures).0 in
    omega (arith, even)

pub overflow_sub-result : goal.overflow_sub-result
overflow_sub-result c =
    let even : HasU c.args.cycle c.args.red (get_or c.pair-w.result 0 0) =
    let a = c.args in
    (has_us a.cycle a.from a.to a.red c.pair-w.result c.requires.0 c.requires.4 c.pair-w.ensures).0 in
    omega (arith, even)

pub returns-then-w : goal.returns-then-w
returns-then-w c =
    let a = c.args in
    choice_even a.cycle a.from a.to a.red c.pair-w.result c.pair-w.ensures c.if-w.true

pub overflow_add-result-2 : goal.overflow_add-result-2
overflow_add-result-2 c =
    let odd : HasU c.args.cycle c.args.red (get_or c.pair-w.result 1 0) =
    let a = c.args in
    (has_us a.cycle a.from a.to a.red c.pair-w.result c.requires.0 c.requires.4 c.pair-w.ensures).1 in
    omega (arith, odd)

pub overflow_sub-result-2 : goal.overflow_sub-result-2
overflow_sub-result-2 c =
    let odd : HasU c.args.cycle c.args.red (get_or c.pair-w.result 1 0) =
    let a = c.args in
    (has_us a.cycle a.from a.to a.red c.pair-w.result c.requires.0 c.requires.4 c.pair-w.ensures).1 in
    omega (arith, odd)

pub returns : goal.returns
returns c =
    let a = c.args in
    choice_odd a.cycle a.from a.to a.red c.pair-w.result c.pair-w.ensures c.if-w.false
