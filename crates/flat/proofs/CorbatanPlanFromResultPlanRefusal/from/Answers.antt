-- A plan's answer has the fields that its numbers have. B is read off its bits and fits them.
use Rattle.std.proofs.Common.{rules, sym, ap, ◌∙◌}
use mir.Syntax.{w32}
use mir.Val.{SFits}
use mir.ValLaws.{to_z-of_z}
use Rattle.flat.specs.Flat.{flat_plan}
use Rattle.flat.proofs.Laws.{plan_fields_lem, plan-refused}
use Rattle.flat.proofs.CorbatanPlanFromResultPlanRefusal.from.Goals as goal

pub returns-in-Ok : goal.returns-in-Ok
returns-in-Ok c =
    let fits : SFits w32 c.in-Ok.p.b = search rules in
    let p = c.in-Ok.p in
    plan_fields_lem p _ (to_z-of_z w32 p.b fits) ∙ ap flat_plan (sym c.in-Ok.is)

pub returns-in-Err : goal.returns-in-Err
returns-in-Err c =
    plan-refused c.in-Err.f c.from.result c.from.ensures ∙ ap flat_plan (sym c.in-Err.is)
