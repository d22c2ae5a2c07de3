-- `cabinets::plan_for` meets its contract: a refusal by the plan's call, whose checks are the same from 13 on; a plan by the call's own answer, whose offsets become seconds.
use Rattle.std.proofs.Common.{arith, rules, ℕ, ◌≡◌, ◌≤◌, List, ap, sym, subst, ◌∙◌, length, Ok, Err}
use Rattle.street.specs.Limits.{min_cycle, max_cycle}
use Rattle.street.specs.Lists.{Lists}
use Rattle.seconds.specs.Seconds.{seconds_check}
use Rattle.seconds.specs.Steps.{Offsets}
use Rattle.cabinets.specs.Calls.{InSeconds}
use Rattle.cabinets.proofs.CallLaws.{as_plan, plan-refused, convert_ready, held_converted}
use Rattle.cabinets.proofs.plan_for.Goals as goal

-- the cycle of the lists as they are held passed 13
whole : (held l : Lists) → held ≡ l → seconds_check held.cycle ≡ Ok tt → seconds_check l.cycle ≡ Ok tt
whole held l same passed = ap (λ (x : Lists). seconds_check x.cycle) (sym same) ∙ passed

pub returns-in_err-plan : goal.returns-in_err-plan
returns-in_err-plan c =
    let l = c.args.street.now in
    let lent : List ℕ = c.args.seconds.now in
    let same = as_plan c.args.request l (length lent) (whole _ l c.street.view_is (sym c.check.ensures ∙ c.in_ok-check.was)) in
    let refusal : c.from_residual-in_err-plan.result ≡ Err c.in_err-plan.field-0.0 = search rules in
    subst (InSeconds c.args.request l lent c.plan_for.new.offsets) (sym refusal)
    (plan-refused c.args.request l lent c.plan_for.new.offsets c.plan_for.result c.plan_for.ensures same _ c.in_err-plan.was)

pub convert-requires : goal.convert-requires
convert-requires c =
    let l = c.args.street.now in
    let lent : List ℕ = c.args.seconds.now in
    let mid : List ℕ = c.plan_for.new.offsets in
    let whole_held = sym c.check.ensures ∙ c.in_ok-check.was in
    let same = as_plan c.args.request l (length lent) (whole _ l c.street.view_is whole_held) in
    let held =
    subst (λ (x : Lists). (x.cycle ≤ max_cycle) × (min_cycle ≤ x.cycle) × Offsets x.cycle x.reds mid) (sym c.street.view_is)
    (convert_ready c.args.request l lent mid c.plan_for.result c.plan_for.ensures same _ c.in_ok-plan.was) in
    (held.0, whole_held, omega (arith, held.1), held.2)

pub returns : goal.returns
returns c =
    let l = c.args.street.now in
    let lent : List ℕ = c.args.seconds.now in
    let mid : List ℕ = c.plan_for.new.offsets in
    let same = as_plan c.args.request l (length lent) (whole _ l c.street.view_is (sym c.check.ensures ∙ c.in_ok-check.was)) in
    held_converted c.args.request l lent mid c.plan_for.result c.plan_for.ensures same _ c.in_ok-plan.was _ _ c.street.view_is c.convert.ensures
