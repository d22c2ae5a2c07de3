-- The contract of the call with rows settles the reply and the final list: the rows earn one refusal or none, and then the library's own contract settles both. Readings are equations, so
-- that two of them are equal at once. Assumes nothing.
use Rattle.std.specs.Prelude.{Ok, Err}
use Prim.Native.Nat.{ℕ}
use mathlib.Core.Path.{◌≡◌, refl, sym, ◌∙◌}
use mathlib.Core.List.{List}
use Rattle.street.specs.Verdicts.{Verdict}
use Rattle.street.proofs.Unique.{Same, same}
use Rattle.sheet.specs.Reading.{Reading}
use Rattle.widths.specs.declared.Request.{Request}
use Rattle.plans.specs.Answers.{Answer}
use Rattle.plans.proofs.Unique.{requested_unique}
use Rattle.survey.specs.declared.Row.{Row}
use Rattle.survey.specs.Typing.{typed_rows, survey_checks, survey_reading}
use Rattle.survey.specs.Plans.{Surveyed}

pub surveyed_unique : (asked : Request) (cycle n : ℕ) (row : ℕ → Row) (entry exit exit' : List ℕ) (r r' : Answer) → Surveyed asked cycle n row entry exit r → Surveyed asked cycle n row entry exit' r' → Same r r' exit exit'
surveyed_unique asked cycle n row entry exit exit' r r' one other = go (survey_checks n row) refl
  where
    go : (v : Verdict) → survey_checks n row ≡ v → Same r r' exit exit'
    go (Ok tt) e =
        requested_unique asked (typed_rows cycle n row) entry exit exit' r r' (one.of_street e) (other.of_street e)
    go (Err f) e =
        let a = one.of_rows f e in
        let b = other.of_rows f e in
        same a.0 b.0 a.1 b.1

pub readings_unique : (cycle n : ℕ) (row : ℕ → Row) (r r' : Reading) → r ≡ survey_reading cycle n row → r' ≡ survey_reading cycle n row → r ≡ r'
readings_unique cycle n row r r' one other = one ∙ sym other
