-- What is known of a street's numbers once every check of a plan has passed, in the words of plain numbers. Each check that passed tested true, or searched for
-- a fault and found none. Assumes nothing.
use Rattle.std.specs.Prelude.{Ok, Err}
use Prim.Native.Nat.{ℕ, ◌+◌, ◌-◌, ◌≤◌, ◌<◌}
use mathlib.Core.Path.{◌≡◌, refl, sym, ap₂, ◌∙◌}
use mathlib.Core.Bool.{Bool, true, false, cond, not}
use mathlib.Core.List.{List, [], ◌∷◌, ◌++◌}
use native.Mathlib.Nat.{le_refl}
use native.Mathlib.Omega.{arith}
use lib.ListN.{length, get_or}
use lib.Dec.{leb, ltb}
use borrow.Author.Tests.{ltb-false, leb-false, lt-ltb, le-leb, not-false}
use Rattle.circle.specs.Over.{Found, nowhere, at, first_below, ◌or◌}
use Rattle.circle.proofs.Numbers.{first-none}
use Rattle.road.specs.Limits.{max_signals, max_distance, min_speed, max_speed}
use Rattle.road.specs.Steps.{Driveable}
use Rattle.street.specs.Limits.{min_cycle, max_cycle}
use Rattle.street.specs.Lists.{Lists, signals}
use Rattle.street.specs.Checks.{within, fault_at, or_next, first_fault, bad_red, bad_distance, bad_speed, count_check, room_check, cycle_check, red_check, distance_check, speed_check, counts, opening_checks, number_checks, plan_checks, street_checks}
use Rattle.street.specs.declared.Code.{Code}
use Rattle.street.specs.declared.Code.TheVariants.{Red, Distance, Speed}
use Rattle.street.specs.Verdicts.{Verdict}
use Rattle.street.proofs.CheckLaws.{Within, within_range, Counted, counted, room_enough, cycle_range, last_check}

-- checks that passed one after the other each passed
pub first_passed : (v w : Verdict) → or_next v w ≡ (Ok tt) → v ≡ (Ok tt)
first_passed (Ok tt) w e = refl
first_passed (Err f) w e = e

pub rest_passed : (v w : Verdict) → or_next v w ≡ (Ok tt) → w ≡ (Ok tt)
rest_passed (Ok tt) w e = e
rest_passed (Err f) w e = let z : ◌≡◌ {A = ℕ} 0 1 = cc in absurd (omega arith)

-- the first fault of two lists of checks, one after the other, is the first list's, or else the second's
pub first_of_both : (xs ys : List Verdict) → or_next (first_fault xs) (first_fault ys) ≡ first_fault (xs ++ ys)
first_of_both [] ys = refl
first_of_both ((Ok tt) ∷ xs) ys = first_of_both xs ys
first_of_both (Err f ∷ xs) ys = refl

-- so a plan's fault is the opening's, or else the numbers'
pub plan_parts : (l : Lists) (room : ℕ) → or_next (first_fault (opening_checks l room)) (first_fault (number_checks l)) ≡ plan_checks l room
unfolding plan_checks
plan_parts l room = first_of_both (opening_checks l room) (number_checks l)

-- and what the opening tells is what the numbers' checks require
pub opening_tells : (l : Lists) (room : ℕ) → first_fault (opening_checks l room) ≡ Ok tt → (1 ≤ l.cycle) × (counts l ≡ Ok tt)
opening_tells l room all =
    let on = rest_passed (room_check (signals l) room) _ (rest_passed (counts l) _ all) in
    (omega (arith, (cycle_range l.cycle (first_passed (cycle_check l.cycle) (Ok tt) on)).low), first_passed (counts l) _ all)

-- a search that found no fault
pub no_fault : (code : Code) (f : Found) → fault_at code f ≡ (Ok tt) → f ≡ nowhere
no_fault code nowhere e = refl
no_fault code (at i) e = let z : ◌≡◌ {A = ℕ} 0 1 = cc in absurd (omega arith)

or_left : (p q : Bool) → (p or q) ≡ false → p ≡ false
or_left true q e = e
or_left false q e = refl

or_right : (p q : Bool) → (p or q) ≡ false → q ≡ false
or_right true q e = let z : ◌≡◌ {A = ℕ} 0 1 = cc in absurd (omega arith)
or_right false q e = e

-- distances that passed rise, and are near enough
pub distances_rise : (ds : List ℕ) → distance_check ds ≡ (Ok tt) → (k : ℕ) → k + 1 < length ds → get_or ds k 0 < get_or ds (k + 1) 0
unfolding distance_check
distances_rise ds e k l =
    let none = first-none (length ds) (bad_distance ds) (no_fault Distance (first_below (length ds) (bad_distance ds)) e) (k + 1) l in
    let above = or_right (ltb max_distance (get_or ds (k + 1) 0)) _ none in
    let later : 0 < k + 1 = omega arith in
    let same : k + 1 - 1 ≡ k = omega arith in
    let open-test : cond (ltb 0 (k + 1)) (leb (get_or ds (k + 1) 0) (get_or ds (k + 1 - 1) 0)) false ≡ leb (get_or ds (k + 1) 0) (get_or ds k 0) =
    ap₂ (λ t (j : ℕ). cond t (leb (get_or ds (k + 1) 0) (get_or ds j 0)) false) (lt-ltb 0 (k + 1) later) same in
    leb-false _ _ (sym open-test ∙ above)

pub distances-near : (ds : List ℕ) → distance_check ds ≡ (Ok tt) → (k : ℕ) → k < length ds → get_or ds k 0 ≤ max_distance
unfolding distance_check
distances-near ds e k l =
    let none = first-none (length ds) (bad_distance ds) (no_fault Distance (first_below (length ds) (bad_distance ds)) e) k l in
    ltb-false _ _ (or_left (ltb max_distance (get_or ds k 0)) _ none)

pub record Speeds (out back : ℕ) : Type 0 where
  pub outbound : Within min_speed max_speed out
  pub inbound : Within min_speed max_speed back

pub speeds_within : (outs ins : List ℕ) → speed_check outs ins ≡ (Ok tt) → (k : ℕ) → k < length outs → Speeds (get_or outs k 0) (get_or ins k 0)
unfolding speed_check
speeds_within outs ins e k l =
    let none = first-none (length outs) (bad_speed outs ins) (no_fault Speed (first_below (length outs) (bad_speed outs ins)) e) k l in
    let out = or_left (not (within min_speed max_speed (get_or outs k 0))) _ none in
    let back = or_right (not (within min_speed max_speed (get_or outs k 0))) _ none in
    record {
      outbound = within_range min_speed max_speed (get_or outs k 0) (not-false _ out);
      inbound = within_range min_speed max_speed (get_or ins k 0) (not-false _ back);
    }

pub reds_within : (cycle : ℕ) (reds : List ℕ) → red_check cycle reds ≡ (Ok tt) → (k : ℕ) → k < length reds → get_or reds k 0 ≤ cycle - 1
unfolding red_check
reds_within cycle reds e k l =
    let none = first-none (length reds) (bad_red cycle reds) (no_fault Red (first_below (length reds) (bad_red cycle reds)) e) k l in
    ltb-false _ _ none

-- all of it: the lists' lengths, the room and every number are within their limits
pub record InLimits (l : Lists) (room : ℕ) : Type 0 where
  pub counts : Counted (signals l) (length l.distances) (length l.outbound) (length l.inbound)
  pub roomy : signals l ≤ room
  pub cycle : Within min_cycle max_cycle l.cycle
  pub distances : (k : ℕ) → k < signals l → get_or l.distances k 0 ≤ max_distance
  pub reds : (k : ℕ) → k < signals l → get_or l.reds k 0 ≤ l.cycle - 1
  pub outbound : Driveable l.distances l.outbound
  pub inbound : Driveable l.distances l.inbound

record AllPassed (l : Lists) (room : ℕ) : Type 0 where
  counts : count_check (signals l) (length l.distances) (length l.outbound) (length l.inbound) ≡ (Ok tt)
  roomy : room_check (signals l) room ≡ (Ok tt)
  cycle : cycle_check l.cycle ≡ (Ok tt)
  reds : red_check l.cycle l.reds ≡ (Ok tt)
  distances : distance_check l.distances ≡ (Ok tt)
  speeds : speed_check l.outbound l.inbound ≡ (Ok tt)

all_passed : (l : Lists) (room : ℕ) → plan_checks l room ≡ (Ok tt) → AllPassed l room
unfolding plan_checks
all_passed l room e =
    let count = count_check (signals l) (length l.distances) (length l.outbound) (length l.inbound) in
    let e1 = rest_passed count _ e in
    let e2 = rest_passed (room_check (signals l) room) _ e1 in
    let e3 = rest_passed (cycle_check l.cycle) _ e2 in
    let e4 = rest_passed (red_check l.cycle l.reds) _ e3 in
    let e5 = rest_passed (distance_check l.distances) _ e4 in
    record {
      counts = first_passed count _ e;
      roomy = first_passed (room_check (signals l) room) _ e1;
      cycle = first_passed (cycle_check l.cycle) _ e2;
      reds = first_passed (red_check l.cycle l.reds) _ e3;
      distances = first_passed (distance_check l.distances) _ e4;
      speeds = first_passed (speed_check l.outbound l.inbound) (Ok tt) e5;
    }

-- one direction, from the facts that both share
driveable : (ds vs : List ℕ) → length ds ≡ length vs + 1 → length ds ≤ max_signals → distance_check ds ≡ (Ok tt) → ((k : ℕ) → k < length vs → Within min_speed max_speed (get_or vs k 0)) → Driveable ds vs
driveable ds vs ends few placed speeds =
    record {
      ends = ends;
      few = few;
      rising = λ k h. omega (arith, distances_rise ds placed k (omega arith));
      near = λ k h. distances-near ds placed (k + 1) (omega arith);
      slow = λ k h. (speeds k h).low;
      fast = λ k h. (speeds k h).high;
    }

pub in_limits : (l : Lists) (room : ℕ) → plan_checks l room ≡ (Ok tt) → InLimits l room
in_limits l room e =
    let passed = all_passed l room e in
    let counts = counted (signals l) (length l.distances) (length l.outbound) (length l.inbound) passed.counts in
    let speeds = speeds_within l.outbound l.inbound passed.speeds in
    let few : length l.distances ≤ max_signals = omega arith in
    record {
      counts = counts;
      roomy = room_enough (signals l) room passed.roomy;
      cycle = cycle_range l.cycle passed.cycle;
      distances = λ k h. distances-near l.distances passed.distances k (omega arith);
      reds = reds_within l.cycle l.reds passed.reds;
      outbound = driveable l.distances l.outbound (omega arith) few passed.distances (λ k h. (speeds k h).outbound);
      inbound =
          driveable l.distances l.inbound (omega arith) few passed.distances (λ k h. (speeds k (omega arith)).inbound);
    }

-- the checks pass with any room that is enough
pub enough_room : (l : Lists) (room other : ℕ) → plan_checks l room ≡ (Ok tt) → signals l ≤ other → plan_checks l other ≡ (Ok tt)
unfolding plan_checks room_check
enough_room l room other e fits =
    let passed = all_passed l room e in
    simp (passed.counts, le-leb (signals l) other fits, passed.cycle, passed.reds, passed.distances, passed.speeds)

-- with room for its signals a plan's checks are the street's own; so are those of a call that judges something else after them
pub with_room : (l : Lists) → first_fault (street_checks l) ≡ plan_checks l (signals l)
unfolding plan_checks room_check
with_room l = simp (le-leb (signals l) (signals l) (le_refl (signals l)))

pub street_then : (l : Lists) (last : Verdict) → first_fault (street_checks l ++ last ∷ []) ≡ or_next (plan_checks l (signals l)) last
street_then l last =
    sym (first_of_both (street_checks l) (last ∷ [])) ∙ ap₂ or_next (with_room l) (last_check last)
