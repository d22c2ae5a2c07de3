-- `road::times::link_times` meets its contract: the link is near enough and both speeds are in range, so each time is the one that the definitions name; so is whether
-- either was rounded.
use Prim.Native.Nat.{ℕ, ◌≤◌, ◌<◌}
use mathlib.Core.Path.{◌≡◌, ap, ap₂, ◌∙◌}
use mathlib.Core.Bool.{Bool, not}
use mathlib.Core.List.{List}
use native.Mathlib.Omega.{arith}
use lib.ListN.{length, get_or}
use Rattle.circle.specs.Over.{◌or◌}
use Rattle.road.specs.Limits.{max_distance, min_speed, max_speed}
use Rattle.road.specs.Times.{ticks, whole, link_length}
use Rattle.road.specs.Steps.{Driveable}
use Rattle.road.proofs.TimeLaws.{link_near}
use Rattle.road.proofs.times.link_times.Goals as goal

-- what a direction's time requires
ready : (ds vs : List ℕ) (k long : ℕ) → Driveable ds vs → k < length vs → long ≡ link_length ds k → (long ≤ max_distance) × (min_speed ≤ get_or vs k 0) × (get_or vs k 0 ≤ max_speed)
ready ds vs k long ok h e = (omega (arith, e, link_near ds vs ok k h), ok.slow k h, ok.fast k h)

pub link_length-long-requires : goal.link_length-long-requires
link_length-long-requires c =
    (omega (arith, c.requires.0.ends), c.requires.0.rising c.args.k c.requires.2)

pub link_time-there-requires : goal.link_time-there-requires
link_time-there-requires c =
    ready c.args.distances.now c.args.outbound.now c.args.k c.link_length-long.result c.requires.0 c.requires.2 c.link_length-long.ensures

pub link_time-home-requires : goal.link_time-home-requires
link_time-home-requires c =
    ready c.args.distances.now c.args.inbound.now c.args.k c.link_length-long.result c.requires.1 (omega (arith, c.requires.0.ends, c.requires.1.ends, c.requires.2)) c.link_length-long.ensures

pub returns : goal.returns
returns c =
    let long = c.link_length-long.ensures in
    let out = get_or c.args.outbound.now c.args.k 0 in
    let back = get_or c.args.inbound.now c.args.k 0 in
    let there = c.link_time-there in
    let home = c.link_time-home in
    record {
      outbound = there.ensures.0 ∙ ap (λ (d : ℕ). ticks d out) long;
      inbound = home.ensures.0 ∙ ap (λ (d : ℕ). ticks d back) long;
      rounded =
          c.rounded.ensures
          ∙ ap₂ (λ (x y : Bool). not x or not y) (there.ensures.1 ∙ ap (λ (d : ℕ). whole d out) long) (home.ensures.1 ∙ ap (λ (d : ℕ). whole d back) long);
    }
