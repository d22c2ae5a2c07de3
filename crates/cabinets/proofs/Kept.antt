-- The promises of a reply and of the seconds beside it. Code 0 is given only where every check passed; then the reply is a plan's, and each entry is the second of the plan's own offset. So each red starts
-- 10 halves less some η of 0 to 19 after the plan's, and the named bands keep what is left. Assumes nothing.
use Rattle.std.specs.Prelude.{Ok}
use Prim.Native.Nat.{ℕ, ◌+◌, ◌-◌, ◌*◌, ◌≤◌, ◌<◌}
use mathlib.Core.Path.{◌≡◌, refl, sym, ap, subst, ◌∙◌}
use mathlib.Core.List.{List, [], ◌∷◌, ◌++◌}
use native.Mathlib.Omega.{arith}
use lib.ListN.{length, get_or}
use Rattle.circle.specs.Method.{reference, red_start, red_end}
use Rattle.circle.proofs.Numbers.{man_turns}
use Rattle.circle.proofs.Formulas.{reference_lt}
use Rattle.street.specs.Lists.{Lists, signals}
use Rattle.street.specs.Checks.{first_fault, opening_checks, number_checks, plan_checks}
use Rattle.street.specs.Streets.{timed, m}
use Rattle.street.proofs.Passed.{first_passed, rest_passed, first_of_both}
use Rattle.widths.specs.Checks.{request_check}
use Rattle.widths.specs.Moved.{shift_of, outbound_width, inbound_width}
use Rattle.widths.specs.declared.Request.{Request}
use Rattle.widths.specs.declared.Shift.{Shift}
use Rattle.offsets.specs.Moved.{moved_offset}
use Rattle.plans.specs.Answers.{plan_numbers}
use Rattle.street.specs.Verdicts.{answered}
use Rattle.plans.specs.Requests.{moved_plan, request_after}
use Rattle.plans.specs.Answers.{Answer}
use Rattle.promises.specs.Exact.{exact_ways}
use Rattle.promises.proofs.Streets.Passing.{fit, rising}
use Rattle.promises.proofs.Streets.Directions.{way_in, Near, ways_by, near_rounded, near_exact}
use Rattle.promises.proofs.Kept.{InRange, plan_bands}
use Rattle.promises.proofs.Replies.Calls.{planned, left, reply_told}
use Rattle.seconds.specs.Seconds.{second_halves, seconds_check}
use Rattle.seconds.proofs.SecondLaws.{nudged}
use Rattle.cabinets.specs.Calls.{seconds_of, seconds_checks, InSeconds}
use Rattle.cabinets.specs.Kept.{kept_offset, LosesAtMost, KeptInSeconds, SecondsRounded, SecondsExact, AtMostTwenty}
use Rattle.cabinets.proofs.CallLaws.{as_plan}
use Rattle.cabinets.proofs.Nudged.{Nudges, Band, band}

-- what a reply with code 0 and the lent list say: the cycle is a whole number of seconds, the reply is that of a plan, and the entries are its offsets' seconds
pub record Said (l : Lists) (room : ℕ) (shift : Shift) (exit : List ℕ) (r : Answer) : Type 0 where
  pub whole : seconds_check l.cycle ≡ (Ok tt)
  pub passed : plan_checks l room ≡ (Ok tt)
  pub range : InRange (timed l) shift
  pub numbers : moved_plan shift (timed l) (m l) ≡ (plan_numbers r).plan
  pub seconds : (j : ℕ) → j < signals l → get_or exit j 0 ≡ seconds_of 0 (timed l) (moved_offset shift (timed l)) j

pub reply_said :
    (asked : Request) (l : Lists) (entry exit : List ℕ) (r : Answer) → InSeconds asked l entry exit r → (plan_numbers r).code ≡ 0 →
    Said l (length entry) (shift_of asked (timed l)) exit r
reply_said asked l entry exit r call code =
    let s = timed l in
    let room = length entry in
    let shift = shift_of asked s in
    let plan = moved_plan shift s (m l) in
    let v = seconds_checks asked l room in
    let rest = seconds_check l.cycle ∷ (number_checks l ++ (request_check asked s ∷ [])) in
    let all : v ≡ (Ok tt) = planned v plan (ap (λ a. (plan_numbers a).code) (sym call.reply) ∙ code) in
    let both = first_of_both (opening_checks l room) rest ∙ all in
    let whole = first_passed (seconds_check l.cycle) _ (rest_passed (first_fault (opening_checks l room)) (first_fault rest) both) in
    let reply = call.reply ∙ ap (λ w. answered w plan) (as_plan asked l room whole) in
    let told = reply_told asked l entry (request_after asked l entry) r (record { reply = reply; after = refl }) code in
    record {
      whole = whole;
      passed = told.passed;
      range = told.range;
      numbers = told.numbers;
      seconds = λ j h. ap (λ (x : List ℕ). get_or x j 0) call.after ∙ left v (signals l) (seconds_of 0 s (moved_offset shift s)) entry all j h;
    }

-- so the offsets that the cabinets keep have each red start 10 halves less some η after the plan's
module _ (l : Lists) (room : ℕ) (shift : Shift) (exit : List ℕ) (r : Answer) (said : Said l room shift exit r) where
  nudges : (j : ℕ) → j < signals l → Nudges l (moved_offset shift (timed l)) (kept_offset l exit) j
  unfolding red_start
  nudges j h =
      let s = timed l in
      let H : ℕ = 2 * l.cycle in
      let red = s.red j in
      let f = moved_offset shift s j in
      let around : 0 < H = omega (arith, (fit l room said.passed).turns) in
      let some : 0 < l.cycle = omega (arith, (fit l room said.passed).turns) in
      let nudge = nudged l.cycle 0 f red some said.whole in
      let kept = man_turns H (second_halves * get_or exit j 0) red around in
      let starts = man_turns H (kept_offset l exit j) red around in
      let started = man_turns H f red around in
      record {
        η = nudge.η;
        within = nudge.within;
        turns =
            record {
              p = starts.p + kept.p + nudge.turns.p + started.q;
              q = starts.q + kept.q + nudge.turns.q + started.p;
              eq = omega (arith, starts.eq, kept.eq, nudge.turns.eq, started.eq, said.seconds j h);
            };
      }

  module _ (N lost : ℕ) {out back : ℕ → ℕ} (near : Near l N lost out back) where
    -- what is left of the two bands that the plan names
    bands :
        (most : ℕ) → lost + 19 ≤ most →
        let s = timed l in
        let c = reference s in
        let f = moved_offset shift s in
        Band N (way_in l N (λ j. N * kept_offset l exit j) out) (c + 1 - 1) (red_end s c (f c)) 0 (outbound_width shift s) lost most
        × Band N (way_in l N (λ j. N * kept_offset l exit j) back) (c + 1 - 1) (red_start s c (f c)) (inbound_width shift s) (inbound_width shift s) lost most
    bands most enough =
        let s = timed l in
        let c = reference s in
        let f : ℕ → ℕ = moved_offset shift s in
        let g : ℕ → ℕ = kept_offset l exit in
        let ok = fit l room said.passed in
        let named = plan_bands s ok (rising l room said.passed) f shift (λ j h. refl) said.range in
        let below = reference_lt s ok.some in
        let from-1 : c ≡ c + 1 - 1 = omega arith in
        let v = outbound_width shift s in
        let v' = inbound_width shift s in (
          subst (λ (k : ℕ). Band N (way_in l N (λ j. N * g j) out) k (red_end s c (f c)) 0 v lost most) from-1
              (band l room said.passed N lost near.some near.outwards f g nudges c (red_end s c (f c)) 0 v below named.out most enough),
          subst (λ (k : ℕ). Band N (way_in l N (λ j. N * g j) back) k (red_start s c (f c)) v' v' lost most) from-1
              (band l room said.passed N lost near.some near.inwards f g nudges c (red_start s c (f c)) v' v' below named.back most enough),
        )

    loses : (most : ℕ) → lost + 19 ≤ most → LosesAtMost most (ways_by l N out back) (kept_offset l exit) (moved_plan shift (timed l) (m l))
    loses most enough =
        let (to, fro) = bands most enough in
        record { outbound_stretch = to.inside; inbound_stretch = fro.inside; outbound_short = to.short; inbound_short = fro.short }

    -- of the reply's own numbers
    kept : KeptInSeconds (ways_by l N out back) (kept_offset l exit) (plan_numbers r).plan lost
    kept =
        let (to, fro) = bands (lost + 19) (omega arith) in
        subst (λ p. KeptInSeconds (ways_by l N out back) (kept_offset l exit) p lost) said.numbers
        (record { outbound_clear = to.clear _ _ (omega arith) (omega arith); inbound_clear = fro.clear _ _ (omega arith) (omega arith); loses = loses _ (omega arith) })

    in_twenty : LosesAtMost (lost + 20) (ways_by l N out back) (kept_offset l exit) (plan_numbers r).plan
    in_twenty = subst (λ p. LosesAtMost (lost + 20) (ways_by l N out back) (kept_offset l exit) p) said.numbers (loses (lost + 20) (omega arith))

pub seconds_rounded : SecondsRounded
seconds_rounded asked l entry exit r call code N some =
    let said = reply_said asked l entry exit r call code in
    kept l (length entry) (shift_of asked (timed l)) exit r said N 0 (near_rounded l (length entry) said.passed N some)

pub seconds_exact : SecondsExact
seconds_exact asked l entry exit r call code N fine =
    let said = reply_said asked l entry exit r call code in
    let lost = ap (λ p. p.rounded) said.numbers in
    subst (KeptInSeconds (exact_ways l N) (kept_offset l exit) (plan_numbers r).plan) lost
    (kept l (length entry) (shift_of asked (timed l)) exit r said N (m l) (near_exact l (length entry) said.passed N fine))

pub at_most_twenty : AtMostTwenty
at_most_twenty asked l entry exit r call code =
    let said = reply_said asked l entry exit r call code in
    let lost = ap (λ p. p.rounded) said.numbers in
    let shift = shift_of asked (timed l) in (
      λ N some. in_twenty l (length entry) shift exit r said N 0 (near_rounded l (length entry) said.passed N some),
      λ N fine.
          subst (λ (k : ℕ). LosesAtMost (k + 20) (exact_ways l N) (kept_offset l exit) (plan_numbers r).plan) lost
          (in_twenty l (length entry) shift exit r said N (m l) (near_exact l (length entry) said.passed N fine)),
    )
