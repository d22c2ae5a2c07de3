-- What a reading of rows makes of a plan: where it is a sheet, the plan of its lists is that of the numbers as typed by hand. Assumes nothing.
use Rattle.std.specs.Prelude.{Ok, Err}
use Prim.Native.Nat.{ℕ}
use mathlib.Core.Path.{◌≡◌, refl, sym, ap, ◌∙◌, subst}
use mathlib.Core.List.{List}
use native.Mathlib.Omega.{arith}
use Rattle.street.specs.Codes.{code_number}
use Rattle.street.specs.Lists.{Lists}
use Rattle.street.specs.Verdicts.{Verdict}
use Rattle.street.proofs.CheckLaws.{code_some}
use Rattle.sheet.specs.Reading.{lists_of}
use Rattle.sheet.specs.declared.Sheet.{Sheet}
use Rattle.widths.specs.declared.Request.{Request}
use Rattle.plans.specs.Answers.{plan_numbers}
use Rattle.plans.specs.Requests.{Requested}
use Rattle.plans.specs.Answers.{Answer}
use Rattle.survey.specs.declared.Row.{Row}
use Rattle.survey.specs.Typing.{typed_rows, survey_checks, survey_reading}
use Rattle.survey.specs.Plans.{Surveyed}
use Rattle.survey.proofs.RowLaws.{not_both}
use Rattle.survey.proofs.TypingLaws.{reading_passed}

pub rows_planned : (request : Request) (cycle n : ℕ) (row : ℕ → Row) (entry exit : List ℕ) (a : Answer) (s : Sheet) → survey_reading cycle n row ≡ Ok s → Requested request (lists_of s) entry exit a → Surveyed request cycle n row entry exit a
rows_planned request cycle n row entry exit a s e requested =
    let p = reading_passed cycle n row s e in
    record {
      of_rows = λ f h. absurd (not_both f h p.checks);
      of_street = λ _. subst (λ (l : Lists). Requested request l entry exit a) p.lists requested;
    }

-- a reply with code 0 is the library's own, to the numbers as typed by hand: so all that is promised of such a reply is promised of it
pub with_code_0 : (request : Request) (cycle n : ℕ) (row : ℕ → Row) (entry exit : List ℕ) (a : Answer) → Surveyed request cycle n row entry exit a → (plan_numbers a).code ≡ 0 → Requested request (typed_rows cycle n row) entry exit a
with_code_0 request cycle n row entry exit a surveyed e = go (survey_checks n row) refl
  where
    go : (v : Verdict) → survey_checks n row ≡ v → Requested request (typed_rows cycle n row) entry exit a
    go (Ok tt) p = surveyed.of_street p
    go (Err f) p =
        let code : code_number f.code ≡ 0 = sym (ap (λ x. (plan_numbers x).code) (surveyed.of_rows f p).0) ∙ e in
        absurd (omega (arith, code, code_some f.code))
