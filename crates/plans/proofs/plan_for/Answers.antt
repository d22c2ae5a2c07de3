-- `plans::plan_for` meets its contract: a refusal by the plan's checks or by the request's; a plan by what the search, the shift, the offsets and the numbers
-- ensure of the street that passed, carried over to the typed lists.
use Rattle.std.proofs.Common.{rules, ℕ, ◌≤◌, ◌<◌, ◌≡◌, List, length, sym, subst, ◌∙◌, Ok, Err}
use native.Mathlib.Omega.{arith}
use Rattle.road.specs.Limits.{max_signals}
use Rattle.street.specs.Lists.{Lists}
use Rattle.street.specs.Steps.{Checked, max_halves, built, timed_street, Sound}
use Rattle.street.proofs.Sound.{sound, built_ok}
use Rattle.search.specs.Steps.{Reduced, Searched}
use Rattle.search.specs.declared.Candidate.{Candidate}
use Rattle.widths.specs.Checks.{request_check}
use Rattle.widths.specs.Moved.{shift_of}
use Rattle.widths.specs.Steps.{shift_width}
use Rattle.widths.specs.declared.Request.{Request}
use Rattle.widths.specs.declared.Shift.{Shift}
use Rattle.widths.proofs.WidthLaws.{shift_small}
use Rattle.offsets.specs.Steps.{Ready}
use Rattle.offsets.proofs.OffsetLaws.{ready_lt, own_written}
use Rattle.plans.specs.Requests.{Requested}
use Rattle.plans.proofs.RequestLaws.{passed_room, asked_refused, requested_planned}
use Rattle.plans.proofs.plan_for.Goals as goal

-- the street that lists made which passed
module _ (l : Lists) (room : ℕ) (s : Checked) (was : built l room ≡ Ok s) where
  street_sound : Sound (timed_street s)
  street_sound = subst (λ (t : Checked). Sound (timed_street t)) (sym (built_ok l room s was).1) (sound l room (built_ok l room s was).0)

  roomy : s.road.signals ≤ room
  roomy = passed_room l room s (built_ok l room s was).1 (built_ok l room s was).0

  ready : (x : List ℕ) (r : Candidate) → Reduced (timed_street s) x → Searched (timed_street s) r → Ready (timed_street s) x r.signal r.raised
  ready x r anchors found =
      record {
        base = record { sound = street_sound; width = found.width; small = found.small };
        anchors = anchors;
        found = found.found;
      }

  among : (x : List ℕ) (r : Candidate) → Reduced (timed_street s) x → Searched (timed_street s) r → (r.signal < s.road.signals) × (s.road.signals ≤ max_signals)
  among x r anchors found = (ready_lt (timed_street s) x r.signal r.raised (ready x r anchors found), street_sound.few)

  narrow : (asked : Request) (shift : Shift) → shift ≡ shift_of asked (timed_street s) → request_check asked (timed_street s) ≡ Ok tt → shift_width shift ≤ max_halves
  narrow asked shift is passed = subst (λ x. shift_width x ≤ max_halves) (sym is) (shift_small (timed_street s) asked street_sound passed)

pub returns-in_err-check : goal.returns-in_err-check
returns-in_err-check c =
    let l = c.args.street.now in
    let lent : List ℕ = c.args.offsets.now in
    let told = built_ok l (length lent) c.in_ok-s.s (sym c.new.ensures ∙ c.in_ok-s.was) in
    let refusal : c.from_residual-in_err-check.result ≡ Err c.in_err-check.field-0.0 = search rules in
    subst (Requested c.args.request l lent lent) (sym refusal)
    (asked_refused c.args.request l lent c.in_ok-s.s _ told.0 told.1 (sym c.check.ensures ∙ c.in_err-check.was))

pub write-requires : goal.write-requires
write-requires c =
    let l = c.args.street.now in
    let room = length c.args.offsets.now in
    let s = c.in_ok-s.s in
    let was = sym c.new.ensures ∙ c.in_ok-s.was in (
      ready l room s was c.reduce-anchors.result c.search-found.result c.reduce-anchors.ensures c.search-found.ensures,
      narrow l room s was c.args.request c.settle-shift.result c.settle-shift.ensures (sym c.check.ensures ∙ c.in_ok-check.was),
      roomy l room s was,
    )

pub offset_bounds-offsets-found : goal.offset_bounds-offsets-found
offset_bounds-offsets-found c =
    let was = sym c.new.ensures ∙ c.in_ok-s.was in
    omega (arith, among c.args.street.now (length c.args.offsets.now) c.in_ok-s.s was c.reduce-anchors.result c.search-found.result c.reduce-anchors.ensures c.search-found.ensures)

pub bounds-offsets-found : goal.bounds-offsets-found
bounds-offsets-found c =
    let l = c.args.street.now in
    let room = length c.args.offsets.now in
    let was = sym c.new.ensures ∙ c.in_ok-s.was in
    let within = among l room c.in_ok-s.s was c.reduce-anchors.result c.search-found.result c.reduce-anchors.ensures c.search-found.ensures in
    omega (arith, within, roomy l room c.in_ok-s.s was)

pub numbers-requires : goal.numbers-requires
numbers-requires c =
    let l = c.args.street.now in
    let lent : List ℕ = c.args.offsets.now in
    let s = c.in_ok-s.s in
    let was = sym c.new.ensures ∙ c.in_ok-s.was in
    let at = c.search-found.result in
    let x = c.reduce-anchors.result in (
      c.search-found.ensures.found,
      narrow l (length lent) s was c.args.request c.settle-shift.result c.settle-shift.ensures (sym c.check.ensures ∙ c.in_ok-check.was),
      own_written (timed_street s) x at.signal at.raised c.settle-shift.result lent _ (ready l (length lent) s was x at c.reduce-anchors.ensures c.search-found.ensures) c.write.ensures,
    )

pub returns : goal.returns
returns c =
    let l = c.args.street.now in
    let lent : List ℕ = c.args.offsets.now in
    let s = c.in_ok-s.s in
    let told = built_ok l (length lent) s (sym c.new.ensures ∙ c.in_ok-s.was) in
    requested_planned c.args.request l lent c.write.new.offsets s c.settle-shift.result c.numbers.result
    told.0
    told.1
    (sym c.check.ensures ∙ c.in_ok-check.was)
    c.settle-shift.ensures
    c.write.ensures
    c.numbers.ensures
