-- The promises of a call's reply. Code 0 is given only where the checks found no fault, and then the contract makes the reply's numbers those of the request's plan and the first entries of
-- the lent list its offsets: so what a plan keeps, the reply keeps. Nothing is lowered in the equal plan, so it is the method's own. Assumes nothing.
use Rattle.std.specs.Prelude.{Result, Ok, Err, IfOk}
use Prim.Native.Nat.{ℕ, ◌+◌, ◌≤◌, ◌<◌}
use mathlib.Core.Path.{◌≡◌, refl, sym, ap, subst, ◌∙◌}
use mathlib.Core.Bool.{true}
use mathlib.Core.List.{List}
use native.Mathlib.Omega.{arith}
use lib.IntN.{pos}
use lib.ListN.{length, drop, get_or, length-append}
use Rattle.circle.specs.Over.{list_below}
use Rattle.circle.specs.Method.{Timed, reference, red_end, red_start}
use Rattle.circle.specs.Moved.{in_range, platoon_width}
use Rattle.circle.proofs.Numbers.{get_or-list_below, length_list_below}
use Rattle.circle.proofs.Formulas.{platoons_alone}
use Rattle.street.specs.Lists.{Lists, signals}
use Rattle.street.specs.Checks.{or_next, plan_checks, written}
use Rattle.street.specs.Streets.{m, timed}
use Rattle.street.specs.declared.Code.TheVariants.{Width}
use Rattle.street.specs.declared.Refusal.{Refusal}
use Rattle.street.specs.Verdicts.{Verdict}
use Rattle.street.proofs.CheckLaws.{passes, code_some}
use Rattle.street.proofs.Passed.{first_passed, rest_passed}
use Rattle.traffic.specs.Volumes.{platoon_of, Largest}
use Rattle.traffic.proofs.VolumeLaws.{longer, largest_of_all}
use Rattle.widths.specs.Moved.{platoon_shift, shift_of}
use Rattle.widths.specs.Checks.{width_check, request_check}
use Rattle.widths.specs.declared.Request.{Request}
use Rattle.widths.specs.declared.Request.TheVariants as request
use Rattle.widths.specs.declared.Shift.{Shift}
use Rattle.widths.specs.declared.Shift.TheVariants.{Unmoved, Outbound, Inbound}
use Rattle.widths.proofs.WidthLaws.{favours_outbound, favours_inbound}
use Rattle.offsets.specs.Moved.{moved_offset}
use Rattle.offsets.proofs.MovedLaws.{unmoved_offset}
use Rattle.plans.specs.Answers.{plan_numbers}
use Rattle.street.specs.Verdicts.{verdict_of, answered}
use Rattle.plans.specs.Requests.{moved_plan, request_checks, Requested}
use Rattle.plans.specs.Volumes.{carried_plan, carried_of, LargestFor}
use Rattle.plans.specs.declared.Plan.{Plan}
use Rattle.plans.specs.declared.Carried.{Carried}
use Rattle.plans.specs.Answers.{Answer}
use Rattle.promises.specs.Exact.{rounded_ways, exact_ways}
use Rattle.promises.specs.Replies.{Kept, KeptRounded, KeptExact, EqualIsMethod, OneSided, FitsUpTo, LargestVolumes}
use Rattle.promises.proofs.Streets.Passing.{fit, rising}
use Rattle.promises.proofs.Streets.Directions.{near_rounded, near_exact}
use Rattle.promises.proofs.Kept.{InRange, Follows, plan_keeps, platoons_in_range}

-- an answer with code 0 passed the checks
pub planned : (v : Verdict) (p : Plan) → (plan_numbers (answered v p)).code ≡ 0 → v ≡ (Ok tt)
planned (Ok tt) p e = refl
planned (Err f) p e = absurd (omega (arith, code_some f.code))

-- the list that a call leaves has first what the call writes, signal by signal
pub left : (v : Verdict) (n : ℕ) (f : ℕ → ℕ) (before : List ℕ) → v ≡ (Ok tt) → (j : ℕ) → j < n → get_or (written v (list_below n f) before) j 0 ≡ f j
left (Ok tt) n f before e j h = get_or-list_below n f (drop (length (list_below n f)) before) j 0 h
left (Err r) n f before e j h = let z : ◌≡◌ {A = ℕ} 0 1 = cc in absurd (omega arith)

-- and is at least as long as they are many
as_long : (v : Verdict) (n : ℕ) (f : ℕ → ℕ) (before : List ℕ) → v ≡ (Ok tt) → n ≤ length (written v (list_below n f) before)
as_long (Ok tt) n f before e =
    let entries = list_below n f in
    omega (arith, length-append entries (drop (length entries) before), length_list_below n f)
as_long (Err r) n f before e = let z : ◌≡◌ {A = ℕ} 0 1 = cc in absurd (omega arith)

-- and the numbers that it replies are the plan's
replied : (v : Verdict) (p : Plan) → v ≡ (Ok tt) → (plan_numbers (answered v p)).plan ≡ p
replied (Ok tt) p e = refl
replied (Err f) p e = let z : ◌≡◌ {A = ℕ} 0 1 = cc in absurd (omega arith)

-- a request that passed its check comes to a shift in range
width_passed : (s : Timed) (w : ℕ) → width_check s w ≡ (Ok tt) → in_range s w ≡ true
unfolding width_check
width_passed s w e = passes (in_range s w) Width e

in_range_lem : (asked : Request) (l : Lists) (room : ℕ) → plan_checks l room ≡ (Ok tt) → request_check asked (timed l) ≡ (Ok tt) → InRange (timed l) (shift_of asked (timed l))
in_range_lem request.Equal l room passed e = tt
in_range_lem (request.Outbound w) l room passed e = width_passed (timed l) w e
in_range_lem (request.Inbound w) l room passed e = width_passed (timed l) w e
in_range_lem (request.Platoons P Q) l room passed e = platoons_in_range (timed l) (fit l room passed) (rising l room passed) P Q
in_range_lem (request.Volumes out back h) l room passed e =
    platoons_in_range (timed l) (fit l room passed) (rising l room passed) (platoon_of l.cycle h out) (platoon_of l.cycle h back)

-- so what a reply with code 0 and the lent list say: the checks passed, the shift is in range, and numbers and offsets are those of a plan
pub record Told (l : Lists) (room : ℕ) (shift : Shift) (exit : List ℕ) (r : Answer) : Type 0 where
  pub passed : plan_checks l room ≡ (Ok tt)
  pub range : InRange (timed l) shift
  pub numbers : moved_plan shift (timed l) (m l) ≡ (plan_numbers r).plan
  pub same : Follows (timed l) shift (λ j. get_or exit j 0)
  pub long : signals l ≤ length exit

pub reply_told :
    (asked : Request) (l : Lists) (entry exit : List ℕ) (r : Answer) → Requested asked l entry exit r → (plan_numbers r).code ≡ 0 →
    Told l (length entry) (shift_of asked (timed l)) exit r
reply_told asked l entry exit r call code =
    let s = timed l in
    let room = length entry in
    let shift = shift_of asked s in
    let plan = moved_plan shift s (m l) in
    let v = request_checks asked l room in
    let all : v ≡ (Ok tt) = planned v plan (ap (λ a. (plan_numbers a).code) (sym call.reply) ∙ code) in
    let passed = first_passed (plan_checks l room) (or_next (request_check asked s) (Ok tt)) all in
    let asks = rest_passed (plan_checks l room) (or_next (request_check asked s) (Ok tt)) all in
    record {
      passed = passed;
      range = in_range_lem asked l room passed (first_passed (request_check asked s) (Ok tt) asks);
      numbers = sym (ap (λ a. (plan_numbers a).plan) call.reply ∙ replied v plan all);
      same = λ j h. ap (λ (x : List ℕ). get_or x j 0) call.after ∙ left v (signals l) (moved_offset shift s) entry all j h;
      long = omega (arith, ap (λ (x : List ℕ). length x) call.after, as_long v (signals l) (moved_offset shift s) entry all);
    }

-- no check is the equal plan's own
judged : (v : Verdict) (p : Plan) → verdict_of (answered (or_next v (Ok tt)) p) ≡ v
judged (Ok tt) p = refl
judged (Err f) p = refl

pub equal_is_method : EqualIsMethod
equal_is_method l entry exit r call =
    let s = timed l in
    let c = reference s in (
      ap verdict_of call.reply ∙ judged (plan_checks l (length entry)) (moved_plan Unmoved s (m l)),
      λ code.
          let told = reply_told request.Equal l entry exit r call code in
          let ok = fit l (length entry) told.passed in
          let is = sym told.numbers in
          let own = unmoved_offset s c ok.turns in (
            ap (λ p. p.reference) is,
            ap (λ p. p.b) is,
            ap (λ p. p.outbound) is,
            ap (λ p. p.inbound) is,
            ap (λ p. p.rounded) is,
            ap (λ p. p.starts) is ∙ ap (red_end s c) own,
            ap (λ p. p.ends) is ∙ ap (red_start s c) own,
            λ j h. told.same j h ∙ unmoved_offset s j ok.turns,
          ),
    )

pub kept_rounded : KeptRounded
kept_rounded asked l entry exit r call code N some =
    let shift = shift_of asked (timed l) in
    let told = reply_told asked l entry exit r call code in
    let f : ℕ → ℕ = λ j. get_or exit j 0 in
    subst (λ p. Kept shift (rounded_ways l N) f p 0) told.numbers
    (plan_keeps l (length entry) told.passed N 0 (near_rounded l (length entry) told.passed N some) shift f told.same told.range)

pub kept_exact : KeptExact
kept_exact asked l entry exit r call code N fine =
    let shift = shift_of asked (timed l) in
    let told = reply_told asked l entry exit r call code in
    let f : ℕ → ℕ = λ j. get_or exit j 0 in
    subst (λ p. Kept shift (exact_ways l N) f p p.rounded) told.numbers
    (plan_keeps l (length entry) told.passed N (m l) (near_exact l (length entry) told.passed N fine) shift f told.same told.range)

pub one_sided : OneSided
one_sided asked l entry exit r call code P Q is =
    let s = timed l in
    let told = reply_told asked l entry exit r call code in
    let ok = fit l (length entry) told.passed in
    let w = platoon_width s P (P + Q) in
    let w' = platoon_width s Q (P + Q) in
    let of : (k : Shift) → k ≡ platoon_shift s P Q → moved_plan k s (m l) ≡ (plan_numbers r).plan =
    λ k e. ap (λ x. moved_plan x s (m l)) (e ∙ sym is) ∙ told.numbers in (
      λ more none.
          let e = of (Outbound w) (favours_outbound s P Q w (λ same. omega (arith, same)) more refl) in
          sym (ap (λ p. pos p.outbound) e) ∙ platoons_alone s ok P (P + Q) (ap (λ p. p.inbound) e ∙ none),
      λ more none.
          let e = of (Inbound w') (favours_inbound s P Q w' (λ same. omega (arith, same)) (omega arith) refl) in
          sym (ap (λ p. pos p.inbound) e) ∙ platoons_alone s ok Q (P + Q) (ap (λ p. p.outbound) e ∙ none),
    )

-- a largest volume tells of every other whether it fits
fits_up_to : (C h w most : ℕ) → Largest C h w most → FitsUpTo C h w most
fits_up_to C h w most is volume small =
    (λ l. omega (arith, longer C h volume most (omega arith), is.fits), largest_of_all C h w most volume is small)

reply_fits :
    (C h : ℕ) (r : Result Carried Refusal) → IfOk r (LargestFor C h) → (plan_numbers (carried_plan r)).code ≡ 0 →
    FitsUpTo C h (plan_numbers (carried_plan r)).plan.outbound (carried_of r).outbound
    × FitsUpTo C h (plan_numbers (carried_plan r)).plan.inbound (carried_of r).inbound
reply_fits C h (Ok c) is code = (fits_up_to C h c.plan.outbound c.outbound is.0, fits_up_to C h c.plan.inbound c.inbound is.1)
reply_fits C h (Err f) is code = absurd (omega (arith, code_some f.code))

pub largest_volumes : LargestVolumes
largest_volumes out back h l entry exit r call = reply_fits l.cycle h r call.volumes
