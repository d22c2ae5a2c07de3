use Prim.Native.Nat.{ℕ, ◌+◌, ◌-◌, ◌≤◌, ◌<◌}
use mathlib.Core.Path.{◌≡◌, refl, ap, ◌∙◌}
use mathlib.Core.Bool.{Bool, true, false, cond}
use mir.Val.{bool_byte}
use mathlib.Core.List.{List}
use native.Mathlib.Omega.{arith}
use lib.ListN.{length, replicate}
use Rattle.circle.specs.Over.{sum_below, count_below, list_below}
use Rattle.circle.proofs.Numbers.{fill_store}
use Rattle.road.specs.Limits.{max_signals}
use Rattle.road.specs.Times.{link_ticks, time_to, rounded_link}
use Rattle.road.specs.Steps.{max_time, Driveable, padded}
use Rattle.road.proofs.TimeLaws.{sum_step, mark_small, time_small, time_far, count_small}
use Rattle.road.proofs.Road.new.Goals as goal

-- a sum and a link's part of it are small
fits : (ds vs : List ℕ) → Driveable ds vs → (k sum part : ℕ) → k < length vs → sum ≡ time_to ds vs k → part ≡ link_ticks ds vs k → sum + part ≤ max_time
fits ds vs ok k sum part h e g =
    omega (arith, e, g, time_far ds vs ok k (omega arith), time_small ds vs ok k h, ok.ends, ok.few)

-- a link that was rounded counts 1
counts : (r : ℕ) (t t' : Bool) → r ≡ bool_byte t → t ≡ t' → r ≡ cond t' 1 0
counts r true t' e f = e ∙ ap (λ (b : Bool). cond b 1 0) f
counts r false t' e f = e ∙ ap (λ (b : Bool). cond b 1 0) f

pub loop-k-init : goal.loop-k-init
unfolding list_below sum_below
loop-k-init c = record { out = refl; back = refl; rounded = refl; there = refl; home = refl }

pub link_times-link-requires : goal.link_times-link-requires
link_times-link-requires c = (c.requires.0, c.requires.1, omega arith)

pub overflow_add-out : goal.overflow_add-out
overflow_add-out c =
    let at = c.loop-k in
    omega (arith, fits c.args.distances.now c.args.outbound.now c.requires.0 at.k at.out c.link_times-link.result.outbound (omega arith) at.invariant.out c.link_times-link.ensures.outbound)

pub overflow_add-back : goal.overflow_add-back
overflow_add-back c =
    let at = c.loop-k in
    let on : at.k < length c.args.inbound.now = omega (arith, c.requires.0.ends, c.requires.1.ends) in
    omega (arith, fits c.args.distances.now c.args.inbound.now c.requires.1 at.k at.back c.link_times-link.result.inbound on at.invariant.back c.link_times-link.ensures.inbound)

pub overflow_add-rounded : goal.overflow_add-rounded
overflow_add-rounded c =
    let at = c.loop-k in
    let rounded = rounded_link c.args.distances.now c.args.outbound.now c.args.inbound.now in
    omega (arith, at.invariant.rounded, count_small at.k rounded, counts _ _ _ c.from-rounded.ensures c.link_times-link.ensures.rounded, mark_small (rounded at.k), c.requires.0.ends, c.requires.0.few)

pub loop-k-preserved : goal.loop-k-preserved
loop-k-preserved c =
    let at = c.loop-k in
    let link = c.link_times-link.ensures in
    let ds = c.args.distances.now in
    let out = c.args.outbound.now in
    let back = c.args.inbound.now in
    let there = sum_step (link_ticks ds out) at.k at.out _ at.invariant.out link.outbound in
    let home = sum_step (link_ticks ds back) at.k at.back _ at.invariant.back link.inbound in
    let room : at.k + 1 < max_signals = omega (arith, c.requires.0.ends, c.requires.0.few) in
    record {
      out = there;
      back = home;
      rounded = sum_step (λ j. cond (rounded_link ds out back j) 1 0) at.k at.rounded _ at.invariant.rounded (counts _ _ _ c.from-rounded.ensures link.rounded);
      there = fill_store (replicate max_signals 0) at.there (time_to ds out) (at.k + 1) _ 0 room at.invariant.there there;
      home = fill_store (replicate max_signals 0) at.home (time_to ds back) (at.k + 1) _ 0 room at.invariant.home home;
    }

pub returns : goal.returns
returns c =
    let at = c.loop-k in
    let ds = c.args.distances.now in
    let out = c.args.outbound.now in
    let back = c.args.inbound.now in
    let all : at.k + 1 ≡ length ds = omega (arith, c.requires.0.ends) in
    let links : at.k ≡ length ds - 1 = omega arith in
    λ i.
    record {
      signals = length ds;
      outbound = (at.invariant.there ∙ ap (λ (n : ℕ). padded n (time_to ds out)) all) i;
      inbound = (at.invariant.home ∙ ap (λ (n : ℕ). padded n (time_to ds back)) all) i;
      rounded = (at.invariant.rounded ∙ ap (λ (n : ℕ). count_below n (rounded_link ds out back)) links) i;
    }
