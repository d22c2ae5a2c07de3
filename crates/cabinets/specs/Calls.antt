-- What the call with cabinet offsets answers, and what it leaves in the lent list (02, 2026-06): the plan of a request, and the second at which each signal turns green.
use Rattle.std.specs.Prelude.{ℕ, ◌≡◌, List, [], ◌∷◌, ◌++◌, length}
use Rattle.circle.specs.Over.{list_below}
use Rattle.circle.specs.Method.{Timed}
use Rattle.street.specs.Lists.{Lists, signals}
use Rattle.street.specs.Checks.{first_fault, opening_checks, number_checks, written}
use Rattle.street.specs.Streets.{timed, m}
use Rattle.street.specs.Verdicts.{Verdict}
use Rattle.widths.specs.Checks.{request_check}
use Rattle.widths.specs.Moved.{shift_of}
use Rattle.widths.specs.declared.Request.{Request}
use Rattle.offsets.specs.Moved.{moved_offset}
use Rattle.street.specs.Verdicts.{answered}
use Rattle.plans.specs.Requests.{moved_plan}
use Rattle.plans.specs.Answers.{Answer}
use Rattle.seconds.specs.Seconds.{seconds_check, second_of}

-- the seconds of given offsets on a street, by the signal's index
abbrev pub seconds_of : ℕ → Timed → (ℕ → ℕ) → ℕ → ℕ
seconds_of frame s offset j = second_of s.cycle frame (offset j) (s.red j)

-- a call's checks in their order: those of a plan, with 13 directly after 4, and then the request's
abbrev pub seconds_checks : Request → Lists → ℕ → Verdict
seconds_checks request l room =
    first_fault (opening_checks l room ++ (seconds_check l.cycle ∷ number_checks l) ++ (request_check request (timed l) ∷ []))

-- the answer over a lent list of some room: the plan's own numbers
abbrev pub seconds_answer : Request → Lists → ℕ → Answer
seconds_answer request l room =
    answered (seconds_checks request l room) (moved_plan (shift_of request (timed l)) (timed l) (m l))

-- the lent list after the call, in the frame 0, which is the plan's own
abbrev pub seconds_after : Request → Lists → List ℕ → List ℕ
seconds_after request l before =
    written (seconds_checks request l (length before)) (list_below (signals l) (seconds_of 0 (timed l) (moved_offset (shift_of request (timed l)) (timed l)))) before

-- the contract of the call: the reply, and the lent list as the call leaves it
pub record InSeconds (request : Request) (l : Lists) (entry exit : List ℕ) (r : Answer) : Type 0 where
  pub reply : r ≡ seconds_answer request l (length entry)
  pub after : exit ≡ seconds_after request l entry
