-- From the street that the search worked on to the typed lists: the two agree at every signal, so a request's check, its shift, the plan's numbers and its offsets are those
-- of the lists; and what a call answers and leaves behind, for each refusal and for a plan. No shift is wider than the cycle. Assumes nothing.
use Rattle.std.specs.Prelude.{Ok, Err}
use Prim.Native.Nat.{ℕ, ◌+◌, ◌≤◌, ◌<◌}
use mathlib.Core.Path.{◌≡◌, sym, ap, ap₂, ◌∙◌}
use mathlib.Core.List.{List, [], ◌∷◌, ◌++◌}
use native.Mathlib.Omega.{arith}
use lib.ListN.{length, drop}
use Rattle.circle.specs.Over.{list_below}
use Rattle.circle.specs.Method.{Timed, reference, red_end, red_start}
use Rattle.circle.proofs.Numbers.{list_ext, length_list_below}
use Rattle.circle.proofs.Formulas.{Agree, B_agree, reference_agree, red_end_agree, red_start_agree, reference_lt}
use Rattle.street.specs.Lists.{Lists, signals}
use Rattle.street.specs.Checks.{or_next, first_fault, plan_checks, written}
use Rattle.street.specs.Streets.{timed, m}
use Rattle.street.specs.Steps.{Checked, street_of, timed_street}
use Rattle.street.specs.Verdicts.{Verdict}
use Rattle.street.specs.declared.Refusal.{Refusal}
use Rattle.street.proofs.Passed.{in_limits}
use Rattle.street.proofs.Sound.{sound, street_agrees}
use Rattle.widths.specs.Moved.{shift_of}
use Rattle.widths.specs.Checks.{request_check}
use Rattle.widths.specs.declared.Request.{Request}
use Rattle.widths.specs.declared.Shift.{Shift}
use Rattle.widths.proofs.WidthLaws.{check_agree, shift_agree, outbound_agree, inbound_agree}
use Rattle.offsets.specs.Moved.{moved_offset}
use Rattle.offsets.proofs.MovedLaws.{moved_agree}
use Rattle.street.specs.Verdicts.{answered}
use Rattle.plans.specs.Requests.{moved_plan, request_checks, Requested}
use Rattle.plans.specs.declared.Plan.{Plan}

-- a plan goes by the signals alone
module _ (s z : Timed) (agree : Agree s z) (some : 0 < s.signals) where
  own_offset : (shift : Shift) → moved_offset shift s (reference s) ≡ moved_offset shift z (reference z)
  own_offset shift =
      moved_agree s z agree some shift (reference s) (reference_lt s some) ∙ ap (moved_offset shift z) (reference_agree s z agree)

  plan_agree : (shift : Shift) (k : ℕ) → moved_plan shift s k ≡ moved_plan shift z k
  plan_agree shift k =
      λ i.
      record {
        reference = reference_agree s z agree i + 1;
        b = B_agree s z agree i;
        outbound = outbound_agree s z agree shift i;
        inbound = inbound_agree s z agree shift i;
        rounded = k;
        starts =
            (red_end_agree s z agree (reference s) (moved_offset shift s (reference s)) (reference_lt s some)
            ∙ ap₂ (red_end z) (reference_agree s z agree) (own_offset shift)) i;
        ends =
            (red_start_agree s z agree (reference s) (moved_offset shift s (reference s)) (reference_lt s some)
            ∙ ap₂ (red_start z) (reference_agree s z agree) (own_offset shift)) i;
      }

-- the lent list has room for what is written
pub passed_room : (l : Lists) (room : ℕ) (s : Checked) → s ≡ street_of l → plan_checks l room ≡ (Ok tt) → s.road.signals ≤ room
passed_room l room s e p = omega (arith, (in_limits l room p).roomy, ap (λ x. x.road.signals) e)

-- a refusal, by the checks of all plans or by the request's
refused_reply : (asked : Request) (l : Lists) (before : List ℕ) (f : Refusal) → request_checks asked l (length before) ≡ Err f → Requested asked l before before (Err f)
refused_reply asked l before f e =
    record {
      reply = sym (ap (λ v. answered v (moved_plan (shift_of asked (timed l)) (timed l) (m l))) e);
      after = sym (ap (λ v. written v (list_below (signals l) (moved_offset (shift_of asked (timed l)) (timed l))) before) e);
    }

pub requested_refused : (asked : Request) (l : Lists) (before : List ℕ) (f : Refusal) → plan_checks l (length before) ≡ Err f → Requested asked l before before (Err f)
requested_refused asked l before f e =
    refused_reply asked l before f (ap (λ v. first_fault (v ∷ request_check asked (timed l) ∷ [])) e)

-- the request's check over the typed lists
check_lists :
    (asked : Request) (l : Lists) (room : ℕ) (s : Checked) (v : Verdict) → plan_checks l room ≡ (Ok tt) → s ≡ street_of l →
    request_check asked (timed_street s) ≡ v → request_checks asked l room ≡ or_next v (Ok tt)
check_lists asked l room s v passed is e =
    ap₂ (λ x y. first_fault (x ∷ y ∷ [])) passed
    (sym (check_agree (timed_street (street_of l)) (timed l) (street_agrees l room passed) asked) ∙ ap (λ x. request_check asked (timed_street x)) (sym is) ∙ e)

pub asked_refused :
    (asked : Request) (l : Lists) (before : List ℕ) (s : Checked) (f : Refusal) → plan_checks l (length before) ≡ (Ok tt) → s ≡ street_of l →
    request_check asked (timed_street s) ≡ Err f → Requested asked l before before (Err f)
asked_refused asked l before s f passed is e =
    refused_reply asked l before f (check_lists asked l (length before) s (Err f) passed is e)

-- a plan
pub requested_planned :
    (asked : Request) (l : Lists) (before after : List ℕ) (s : Checked) (shift : Shift) (p : Plan) → plan_checks l (length before) ≡ (Ok tt) →
    s ≡ street_of l → request_check asked (timed_street s) ≡ (Ok tt) → shift ≡ shift_of asked (timed_street s) →
    after ≡ list_below s.road.signals (moved_offset shift (timed_street s)) ++ drop s.road.signals before →
    p ≡ moved_plan shift (timed_street s) s.road.rounded → Requested asked l before after (Ok p)
requested_planned asked l before after s shift p passed is fits moves wrote planned =
    let some : 0 < signals l = omega (arith, (sound l (length before) passed).some) in
    let agree = street_agrees l (length before) passed in
    let z = timed_street (street_of l) in
    let mine = shift_of asked (timed l) in
    let entries = list_below (signals l) (moved_offset mine (timed l)) in
    let same : shift ≡ mine = moves ∙ ap (λ x. shift_of asked (timed_street x)) is ∙ shift_agree z (timed l) agree asked in
    let all = check_lists asked l (length before) s (Ok tt) passed is fits in
    record {
      reply =
          ap Ok
          (planned ∙ ap₂ (λ k x. moved_plan k (timed_street x) x.road.rounded) same is ∙ plan_agree z (timed l) agree some mine (m l))
          ∙ sym (ap (λ v. answered v (moved_plan mine (timed l) (m l))) all);
      after =
          wrote
          ∙ ap₂ (λ k x. list_below x.road.signals (moved_offset k (timed_street x)) ++ drop x.road.signals before) same is
          ∙ ap (λ xs. xs ++ drop (signals l) before) (list_ext (signals l) (moved_offset mine z) (moved_offset mine (timed l)) (moved_agree z (timed l) agree some mine))
          ∙ ap (λ (k : ℕ). entries ++ drop k before) (sym (length_list_below (signals l) (moved_offset mine (timed l))))
          ∙ sym (ap (λ v. written v entries before) all);
    }
