-- What the call's parts come to: the checks are the plan's, with one more after the opening; and an answer with a plan leaves the
-- plan's offsets, which become seconds. Assumes nothing.
use Rattle.std.specs.Prelude.{Ok, Err}
use Prim.Native.Nat.{ℕ, ◌*◌, ◌≤◌, ◌<◌}
use mathlib.Core.Path.{◌≡◌, refl, sym, ap, ap₂, ◌∙◌}
use mathlib.Core.List.{List, [], ◌∷◌, ◌++◌}
use native.Mathlib.Omega.{arith}
use lib.ListN.{length, drop, get_or}
use lib.Seq.{drop-append_seam}
use Rattle.circle.specs.Over.{list_below}
use Rattle.circle.proofs.Numbers.{length_list_below, list_ext}
use Rattle.street.specs.Limits.{min_cycle, max_cycle}
use Rattle.street.specs.Lists.{Lists, signals}
use Rattle.street.specs.Checks.{or_next, first_fault, opening_checks, number_checks, plan_checks, written}
use Rattle.street.specs.Streets.{timed, m}
use Rattle.street.specs.declared.Refusal.{Refusal}
use Rattle.street.specs.Verdicts.{Verdict}
use Rattle.street.proofs.Passed.{in_limits, first_of_both}
use Rattle.street.proofs.Sound.{answer_tells}
use Rattle.widths.specs.Checks.{request_check}
use Rattle.widths.specs.Moved.{shift_of}
use Rattle.widths.specs.declared.Request.{Request}
use Rattle.offsets.specs.Moved.{moved_offset}
use Rattle.plans.specs.Answers.{plan_numbers}
use Rattle.street.specs.Verdicts.{verdict_of, answered}
use Rattle.plans.specs.Requests.{moved_plan, request_checks, Requested}
use Rattle.plans.specs.declared.Plan.{Plan}
use Rattle.plans.specs.Answers.{Answer}
use Rattle.plans.proofs.Unique.{offsets_below}
use Rattle.promises.proofs.Replies.Calls.{Told, reply_told}
use Rattle.seconds.specs.Seconds.{seconds_check, second_of}
use Rattle.seconds.specs.Steps.{Offsets}
use Rattle.cabinets.specs.Calls.{seconds_of, seconds_checks, InSeconds}

-- verdicts in a row, however they are put together
in_a_row : (u v w : Verdict) → or_next u (or_next v w) ≡ or_next (or_next u v) w
in_a_row (Ok tt) v w = refl
in_a_row (Err f) v w = refl

-- the checks by what the opening came to, and by what 13 did
module _ (request : Request) (l : Lists) (room : ℕ) where
  -- what is judged after 13
  rest : List Verdict
  rest = number_checks l ++ (request_check request (timed l) ∷ [])

  in_turn : (v w : Verdict) → v ≡ first_fault (opening_checks l room) → w ≡ seconds_check l.cycle → or_next v (or_next w (first_fault rest)) ≡ seconds_checks request l room
  unfolding rest
  in_turn v w opened whole =
      ap₂ (λ a b. or_next a (or_next b (first_fault rest))) opened whole ∙ first_of_both (opening_checks l room) (seconds_check l.cycle ∷ rest)

  pub opening_refused : (v : Verdict) (f : Refusal) → v ≡ first_fault (opening_checks l room) → v ≡ Err f → seconds_checks request l room ≡ Err f
  opening_refused v f opened e = sym (in_turn (Err f) (seconds_check l.cycle) (sym e ∙ opened) refl)

  pub second-refused : (v w : Verdict) (f : Refusal) → v ≡ first_fault (opening_checks l room) → v ≡ (Ok tt) → w ≡ seconds_check l.cycle → w ≡ Err f → seconds_checks request l room ≡ Err f
  second-refused v w f opened on whole e = sym (in_turn (Ok tt) (Err f) (sym on ∙ opened) (sym e ∙ whole))

  -- where 13 passed they are the plan's
  pub as_plan : seconds_check l.cycle ≡ (Ok tt) → seconds_checks request l room ≡ request_checks request l room
  unfolding rest plan_checks
  as_plan whole =
      let opening = first_fault (opening_checks l room) in
      let asks = first_fault (request_check request (timed l) ∷ []) in
      sym (in_turn opening (Ok tt) refl (sym whole))
      ∙ ap (or_next opening) (sym (first_of_both (number_checks l) (request_check request (timed l) ∷ [])))
      ∙ in_a_row opening (first_fault (number_checks l)) asks
      ∙ ap (λ v. or_next v asks) (first_of_both (opening_checks l room) (number_checks l))

-- a refusal leaves the list as it was
pub all_refused : (request : Request) (l : Lists) (entry : List ℕ) (f : Refusal) → seconds_checks request l (length entry) ≡ Err f → InSeconds request l entry entry (Err f)
all_refused request l entry f e =
    let s = timed l in
    let shift = shift_of request s in
    record {
      reply = sym (ap (λ v. answered v (moved_plan shift s (m l))) e);
      after = sym (ap (λ v. written v (list_below (signals l) (seconds_of 0 s (moved_offset shift s))) entry) e);
    }

-- the plan's own answer, where the checks are the plan's
module _
    (request : Request) (l : Lists) (entry mid : List ℕ) (a : Answer) (call : Requested request l entry mid a)
    (same : seconds_checks request l (length entry) ≡ request_checks request l (length entry))
  where
    checked : request_checks request l (length entry) ≡ verdict_of a
    checked =
        sym (answer_tells (request_checks request l (length entry)) (moved_plan (shift_of request (timed l)) (timed l) (m l))) ∙ sym (ap verdict_of call.reply)

    pub plan-refused : (f : Refusal) → a ≡ Err f → InSeconds request l entry mid (Err f)
    plan-refused f e =
        let refused = checked ∙ ap verdict_of e in
        let kept = call.after ∙ ap (λ v. written v (list_below (signals l) (moved_offset (shift_of request (timed l)) (timed l))) entry) refused in
        let all = all_refused request l entry f (same ∙ refused) in
        record { reply = all.reply; after = kept ∙ all.after }

    module _ (p : Plan) (planned : a ≡ Ok p) where
      told : Told l (length entry) (shift_of request (timed l)) mid a
      told = reply_told request l entry mid a call (ap (λ x. (plan_numbers x).code) planned)

      pub convert_ready : (l.cycle ≤ max_cycle) × (min_cycle ≤ l.cycle) × Offsets l.cycle l.reds mid
      convert_ready =
          let ok = in_limits l (length entry) told.passed in (
            ok.cycle.high,
            ok.cycle.low,
            record {
              long = told.long;
              offset = λ j h. omega (arith, told.same j h, offsets_below l (length entry) told.passed (shift_of request (timed l)) j);
              red = λ j h. omega (arith, ok.reds j h, ok.cycle.low);
            },
          )

      pub plan_converted :
          (exit : List ℕ) → exit ≡ list_below (signals l) (λ j. second_of l.cycle 0 (get_or mid j 0) (get_or l.reds j 0)) ++ drop (signals l) mid →
          InSeconds request l entry exit (Ok p)
      plan_converted exit converted =
          let s = timed l in
          let n = signals l in
          let shift = shift_of request s in
          let passed = checked ∙ ap verdict_of planned in
          let offsets = list_below n (moved_offset shift s) in
          let seconds = list_below n (seconds_of 0 s (moved_offset shift s)) in
          let count = length_list_below n (moved_offset shift s) in
          let left = call.after ∙ ap (λ v. written v offsets entry) passed in
          let tail : drop n mid ≡ drop (length seconds) entry =
          ap₂ (λ (k : ℕ) (xs : List ℕ). drop k xs) (sym count) left
          ∙ drop-append_seam offsets (drop (length offsets) entry)
          ∙ ap (λ (k : ℕ). drop k entry) (count ∙ sym (length_list_below n (seconds_of 0 s (moved_offset shift s)))) in
          record {
            reply = sym planned ∙ call.reply ∙ ap (λ v. answered v (moved_plan shift s (m l))) (sym same);
            after =
                converted
                ∙ ap₂ ◌++◌ (list_ext n _ (seconds_of 0 s (moved_offset shift s)) (λ j h. ap (λ (f : ℕ). second_of l.cycle 0 f (get_or l.reds j 0)) (told.same j h))) tail
                ∙ sym (ap (λ v. written v seconds entry) (same ∙ passed));
          }

      -- the same of the lists as they are held
      pub held_converted :
          (held : Lists) (exit : List ℕ) → held ≡ l →
          exit ≡ list_below (signals held) (λ j. second_of held.cycle 0 (get_or mid j 0) (get_or held.reds j 0)) ++ drop (signals held) mid →
          InSeconds request l entry exit (Ok p)
      held_converted held exit is converted =
          plan_converted exit
          (converted
          ∙ ap (λ (x : Lists). list_below (signals x) (λ j. second_of x.cycle 0 (get_or mid j 0) (get_or x.reds j 0)) ++ drop (signals x) mid) is)
