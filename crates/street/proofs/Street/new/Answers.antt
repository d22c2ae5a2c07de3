-- `street::Street::new` meets its contract: where every check passed, they tell what the road and the reds require, and that the street is sound.
use Rattle.std.proofs.Common.{ℕ, ◌≡◌, sym, ap, ◌∙◌, subst, List, length, get_or, Ok}
use Rattle.road.specs.Steps.{padded, road_of}
use Rattle.road.specs.declared.Road.{Road}
use Rattle.street.specs.Lists.{Lists, signals, typed}
use Rattle.street.specs.Checks.{plan_checks}
use Rattle.street.specs.Verdicts.{answered}
use Rattle.street.specs.Steps.{Checked, Sound, timed_street, street_of, built}
use Rattle.street.proofs.Passed.{in_limits}
use Rattle.street.proofs.Sound.{sound}
use Rattle.street.proofs.Street.new.Goals as goal

-- the lists as their struct holds them pass the checks that the handed ones passed
passed : (l l' : Lists) (room : ℕ) → l ≡ l' → plan_checks l' room ≡ Ok tt → plan_checks l room ≡ Ok tt
passed l l' room same ok = ap (λ (x : Lists). plan_checks x room) same ∙ ok

-- the street of a road and reds that were made of lists
put_together : (l : Lists) (road : Road) (reds : List ℕ) → length l.distances ≡ signals l → road ≡ road_of (length l.distances) l.distances l.outbound l.inbound → reds ≡ padded (length l.reds) (λ j. get_or l.reds j 0) → ◌≡◌ {A = Checked} (record { road = road; cycle = l.cycle; reds = reds }) (street_of l)
put_together l road reds even laid red =
    λ i.
    record {
      road = (laid ∙ ap (λ (n : ℕ). road_of n l.distances l.outbound l.inbound) even) i;
      cycle = l.cycle;
      reds = red i;
    }

-- the answer where every check passed
answer : (l l' : Lists) (room : ℕ) (s : Checked) → l ≡ l' → plan_checks l' room ≡ Ok tt → s ≡ street_of l → Ok s ≡ built l' room
answer l l' room s same ok is =
    ap Ok (is ∙ ap street_of same) ∙ ap (λ v. answered v (street_of l')) (sym ok)

pub new-requires : goal.new-requires
new-requires c =
    let l : Lists = typed c.street.inside.cycle c.street.inside.reds.now c.street.inside.distances.now c.street.inside.outbound.now c.street.inside.inbound.now in
    let ok = in_limits l c.args.lent (passed l _ _ c.street.view_is (sym c.judged.ensures ∙ c.in_ok-judged.was)) in
    (ok.outbound, ok.inbound)

pub padded-requires : goal.padded-requires
padded-requires c =
    let l : Lists = typed c.street.inside.cycle c.street.inside.reds.now c.street.inside.distances.now c.street.inside.outbound.now c.street.inside.inbound.now in
    let ok = in_limits l c.args.lent (passed l _ _ c.street.view_is (sym c.judged.ensures ∙ c.in_ok-judged.was)) in
    ok.counts.most

pub invariant_of-result : goal.invariant_of-result
invariant_of-result c =
    let l : Lists = typed c.street.inside.cycle c.street.inside.reds.now c.street.inside.distances.now c.street.inside.outbound.now c.street.inside.inbound.now in
    let pass = passed l _ c.args.lent c.street.view_is (sym c.judged.ensures ∙ c.in_ok-judged.was) in
    let ok = in_limits l c.args.lent pass in
    subst (λ (s : Checked). Sound (timed_street s)) (sym (put_together l _ _ ok.counts.distances c.new.ensures c.padded.ensures)) (sound l c.args.lent pass)

pub returns : goal.returns
returns c =
    let l : Lists = typed c.street.inside.cycle c.street.inside.reds.now c.street.inside.distances.now c.street.inside.outbound.now c.street.inside.inbound.now in
    let told = sym c.judged.ensures ∙ c.in_ok-judged.was in
    let ok = in_limits l c.args.lent (passed l _ _ c.street.view_is told) in
    answer l _ _ _ c.street.view_is told (put_together l _ _ ok.counts.distances c.new.ensures c.padded.ensures)
