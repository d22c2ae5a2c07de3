-- `street::checks::judged` meets its contract: what the opening tells is what the numbers' checks require.
use Rattle.std.proofs.Common.{rules, ◌≡◌, sym, ◌∙◌}
use Rattle.street.specs.Checks.{or_next, first_fault, opening_checks, number_checks}
use Rattle.street.proofs.Passed.{plan_parts, opening_tells}
use Rattle.street.proofs.checks.judged.Goals as goal

pub returns-in_err-opening : goal.returns-in_err-opening
returns-in_err-opening c =
    let l = c.args.street.now in
    let first : c.from_residual.result ≡ or_next (first_fault (opening_checks l c.args.lent)) (first_fault (number_checks l)) = search rules in
    first ∙ plan_parts l c.args.lent

pub numbers-requires : goal.numbers-requires
numbers-requires c = opening_tells c.args.street.now c.args.lent (sym c.opening.ensures ∙ c.in_ok-opening.was)

pub returns : goal.returns
returns c =
    let l = c.args.street.now in
    let all : c.numbers.result ≡ or_next (first_fault (opening_checks l c.args.lent)) (first_fault (number_checks l)) = search rules in
    all ∙ plan_parts l c.args.lent
