-- What holds of a road, read off its padded arrays. Assumes nothing.
use Prim.Native.Nat.{ℕ, ◌-◌, ◌≤◌, ◌<◌}
use mathlib.Core.Path.{◌≡◌}
use mathlib.Core.List.{List}
use native.Mathlib.Omega.{arith}
use lib.ListN.{length, drop, get_or, replicate}
use Rattle.std.proofs.Common.{sym, ap, ◌∙◌, [], ◌++◌, append-nil}
use Rattle.std.proofs.lemmas.List.{ext_get_or}
use Rattle.circle.specs.Over.{list_below}
use Rattle.circle.proofs.Numbers.{get_or-list_below, length_list_below, sum_rises}
use Rattle.road.specs.Limits.{min_signals, max_signals}
use Rattle.road.specs.Times.{link_ticks, time_to}
use Rattle.road.specs.Steps.{max_time, Driveable, padded, road_of}
use Rattle.road.specs.declared.Road.{Road}
use Rattle.road.proofs.TimeLaws.{time_far}

pub get_or-padded : (n : ℕ) (f : ℕ → ℕ) (k : ℕ) → k < n → get_or (padded n f) k 0 ≡ f k
get_or-padded n f k l = get_or-list_below n f (drop n (replicate max_signals 0)) k 0 l

-- a list as an array holds it
pub padded_list : (xs : List ℕ) → xs ++ drop (length xs) (replicate max_signals 0) ≡ padded (length xs) (λ j. get_or xs j 0)
padded_list xs =
    let n = length xs in
    let f : ℕ → ℕ = λ j. get_or xs j 0 in
    let same : list_below n f ≡ xs =
    ext_get_or 0 (list_below n f) xs (length_list_below n f) (λ k l.
    let here : k < n = omega (arith, length_list_below n f) in
    ap (λ (ys : List ℕ). get_or ys k 0) (sym (append-nil (list_below n f))) ∙ get_or-list_below n f [] k 0 here) in
    ap (λ (ys : List ℕ). ys ++ drop n (replicate max_signals 0)) (sym same)

-- one direction's times
far : (ds vs : List ℕ) → Driveable ds vs → (n k : ℕ) → k < n → n ≤ length ds → get_or (padded n (time_to ds vs)) k 0 ≤ max_time
far ds vs ok n k h l = omega (arith, get_or-padded n (time_to ds vs) k h, time_far ds vs ok k (omega (arith, ok.ends)), ok.few)

-- what holds of every road whose distances and speeds passed their checks; its inbound times grow along it, so that none is above signal n's
pub record Paved (r : Road) : Type 0 where
  pub some : min_signals ≤ r.signals
  pub few : r.signals ≤ max_signals
  pub out : (k : ℕ) → k < r.signals → get_or r.outbound k 0 ≤ max_time
  pub back : (k : ℕ) → k < r.signals → get_or r.inbound k 0 ≤ max_time
  pub onward : (k : ℕ) → k < r.signals → get_or r.inbound k 0 ≤ get_or r.inbound (r.signals - 1) 0

pub paved : (n : ℕ) (ds outs ins : List ℕ) → n ≡ length ds → Driveable ds outs → Driveable ds ins → Paved (road_of n ds outs ins)
paved n ds outs ins all out back =
    record {
      some = omega (arith, out.ends);
      few = omega (arith, out.few);
      out = λ k h. far ds outs out n k h (omega arith);
      back = λ k h. far ds ins back n k h (omega arith);
      onward =
          λ k h.
          let at-k = get_or-padded n (time_to ds ins) k h in
          let last = get_or-padded n (time_to ds ins) (n - 1) (omega arith) in
          omega (arith, sum_rises (link_ticks ds ins) (n - 1) k (omega arith));
    }
