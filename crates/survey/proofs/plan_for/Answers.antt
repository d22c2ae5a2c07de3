-- `survey::plan_for` meets its contract: the sheet that the rows come to is planned by its lists.
use mathlib.Core.Path.{sym, ◌∙◌, subst}
use Rattle.street.specs.Lists.{Lists}
use Rattle.plans.specs.Requests.{Requested}
use Rattle.survey.specs.Typing.{in_rows}
use Rattle.survey.proofs.TypingLaws.{reading_passed}
use Rattle.survey.proofs.PlanLaws.{rows_planned}
use Rattle.survey.proofs.plan_for.Goals as goal

pub lists-requires : goal.lists-requires
lists-requires c =
    (reading_passed c.args.cycle _ (in_rows c.args.rows.now) c.in_ok-sheet.sheet (sym c.read.ensures ∙ c.in_ok-sheet.was)).held

pub returns : goal.returns
returns c =
    let a = c.args in
    rows_planned a.request a.cycle _ (in_rows a.rows.now) a.offsets.now c.plan_for.new.offsets c.plan_for.result c.in_ok-sheet.sheet (sym c.read.ensures ∙ c.in_ok-sheet.was)
    (subst (λ (l : Lists). Requested a.request l a.offsets.now c.plan_for.new.offsets c.plan_for.result) c.lists.ensures c.plan_for.ensures)
