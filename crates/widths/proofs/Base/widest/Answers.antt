use Rattle.std.proofs.Common.{ℕ, ◌≡◌, ◌-◌, ◌*◌, ◌<◌, sym, ap, ap₂, ◌∙◌, get_or, pos}
use native.Mathlib.Omega.{arith}
use Rattle.circle.specs.Signed.{minℤ}
use Rattle.circle.specs.Over.{all_below, over_below, least_below}
use Rattle.circle.specs.Moved.{g}
use Rattle.circle.proofs.Numbers.{pos_less, pos_min, least_more}
use Rattle.street.specs.Steps.{Checked, timed_street}
use Rattle.widths.proofs.Base.widest.Invariants.{open_at}
use Rattle.widths.proofs.Base.widest.Goals as goal

pub loop-j-init : goal.loop-j-init
unfolding over_below all_below
loop-j-init c =
    let s = c.s.inside in
    (omega arith, pos_less (2 * s.cycle) (2 * get_or s.reds 0 0) (omega (arith, c.s.invariant.goes 0 c.s.invariant.some)))

pub loop-j-preserved : goal.loop-j-preserved
loop-j-preserved c =
    let s = c.s.inside in
    let loop = c.loop-j in
    let red = 2 * get_or s.reds loop.j 0 in
    let on : loop.j < s.road.signals = omega (arith, c.s.invariant.some) in
    let here = pos_less (2 * s.cycle) red (omega (arith, c.s.invariant.goes loop.j on)) in
    (omega arith, ap pos c.min-low.ensures ∙ pos_min loop.low (2 * s.cycle - red) ∙ ap₂ minℤ loop.invariant.1 here ∙ sym (least_more loop.j (open_at s.cycle s.reds) loop.invariant.0))

pub returns : goal.returns
unfolding g
returns c =
    let s = c.s.inside in
    let all : c.loop-j.j ≡ s.road.signals = omega (arith, c.s.invariant.some) in
    c.loop-j.invariant.1
    ∙ ap (λ (k : ℕ). least_below k (open_at s.cycle s.reds)) all
    ∙ ap (λ (x : Checked). g (timed_street x)) c.s.view_is
