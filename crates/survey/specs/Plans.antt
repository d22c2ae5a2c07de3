-- The plan of a survey (02, 2026-04): the result equals that of the street typed by hand.
use Rattle.std.specs.Prelude.{ℕ, ◌≡◌, List, Ok, Err}
use Rattle.street.specs.declared.Refusal.{Refusal}
use Rattle.widths.specs.declared.Request.{Request}
use Rattle.plans.specs.Requests.{Requested}
use Rattle.plans.specs.Answers.{Answer}
use Rattle.survey.specs.declared.Row.{Row}
use Rattle.survey.specs.Typing.{typed_rows, survey_checks}

-- the contract of the call with rows: the refusal that the rows earn, which leaves the lent list as it was; and where they earn none, whatever the library's own call answers, and leaves in the list, when it is handed the numbers as typed by hand
pub record Surveyed (request : Request) (cycle n : ℕ) (row : ℕ → Row) (entry exit : List ℕ) (r : Answer) : Type 0 where
  pub of_rows : (f : Refusal) → survey_checks n row ≡ Err f → (r ≡ Err f) × (exit ≡ entry)
  pub of_street : survey_checks n row ≡ Ok tt → Requested request (typed_rows cycle n row) entry exit r
