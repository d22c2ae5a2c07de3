-- What a call with a request answers, and what it leaves in the lent offset list (01, 'The equal plan', 'Moving width' and 'Codes, in order of checking').
use Rattle.std.specs.Prelude.{ℕ, ◌+◌, ◌≡◌, List, [], ◌∷◌, length}
use Rattle.circle.specs.Method.{Timed, B, reference, red_end, red_start}
use Rattle.circle.specs.Over.{list_below}
use Rattle.street.specs.Lists.{Lists, signals}
use Rattle.street.specs.Checks.{first_fault, plan_checks, written}
use Rattle.street.specs.Streets.{timed, m}
use Rattle.street.specs.Verdicts.{Verdict}
use Rattle.widths.specs.declared.Request.{Request}
use Rattle.widths.specs.declared.Shift.{Shift}
use Rattle.widths.specs.Moved.{shift_of, outbound_width, inbound_width}
use Rattle.widths.specs.Checks.{request_check}
use Rattle.offsets.specs.Moved.{moved_offset}
use Rattle.plans.specs.declared.Plan.{Plan}
use Rattle.street.specs.Verdicts.{answered}
use Rattle.plans.specs.Answers.{Answer}

-- the plan's numbers: the reference counted from 1, B, both widths, m, and the named bands' instants at c, whose red moved with its offset
abbrev pub moved_plan : Shift → Timed → ℕ → Plan
moved_plan shift s rounded =
    record {
      reference = reference s + 1;
      b = B s;
      outbound = outbound_width shift s;
      inbound = inbound_width shift s;
      rounded = rounded;
      starts = red_end s (reference s) (moved_offset shift s (reference s));
      ends = red_start s (reference s) (moved_offset shift s (reference s));
    }

-- a call's checks in their order: those of every plan, and then the request's
abbrev pub request_checks : Request → Lists → ℕ → Verdict
request_checks request l room = first_fault (plan_checks l room ∷ request_check request (timed l) ∷ [])

-- the answer over a lent list of some room
abbrev pub request_answer : Request → Lists → ℕ → Answer
request_answer request l room =
    answered (request_checks request l room) (moved_plan (shift_of request (timed l)) (timed l) (m l))

-- the lent list after the call
abbrev pub request_after : Request → Lists → List ℕ → List ℕ
request_after request l before =
    written (request_checks request l (length before)) (list_below (signals l) (moved_offset (shift_of request (timed l)) (timed l))) before

-- the contract of `plan_for`, and of each call by its request: the reply, and the lent list as the call leaves it
pub record Requested (request : Request) (l : Lists) (entry exit : List ℕ) (r : Answer) : Type 0 where
  pub reply : r ≡ request_answer request l (length entry)
  pub after : exit ≡ request_after request l entry
