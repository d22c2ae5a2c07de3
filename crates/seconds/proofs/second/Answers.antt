-- `seconds::second` meets its contract: going back on the cycle twice is the start of green, and a test tells whether the nearest second is the first one again.
use native.Mathlib.Omega.{arith}
use Rattle.seconds.proofs.SecondLaws.{green_is, green_round, green_stays}
use Rattle.seconds.proofs.second.Goals as goal

pub returns-then-nearest-cycle : goal.returns-then-nearest-cycle
returns-then-nearest-cycle c =
    let a = c.args in
    let green = green_is a.cycle a.frame a.offset a.red _ _ c.back-green.result (omega arith) c.back-centre.ensures c.back.ensures c.back-green.ensures in
    green_round a.cycle a.frame a.offset a.red c.back-green.result c.requires.1 green c.if-nearest-cycle.true

pub returns : goal.returns
returns c =
    let a = c.args in
    let green = green_is a.cycle a.frame a.offset a.red _ _ c.back-green.result (omega arith) c.back-centre.ensures c.back.ensures c.back-green.ensures in
    green_stays a.cycle a.frame a.offset a.red c.back-green.result (omega arith) c.requires.1 green c.if-nearest-cycle.false
