-- `widths::Base::in_range` meets its contract: the three tests, with B raised, decide the range.
use mathlib.Core.Path.{◌≡◌, ap, ◌∙◌}
use mathlib.Core.Bool.{true, false}
use native.Mathlib.Omega.{arith}
use Rattle.circle.specs.Method.{Timed}
use Rattle.circle.proofs.Formulas.{Fit, green, green_is, green_le, asked_green, outside, within}
use Rattle.street.specs.Steps.{Checked, timed_street}
use Rattle.search.proofs.Leading.{fit_sound}
use Rattle.widths.proofs.WidthLaws.{raised_is, check_is}
use Rattle.widths.proofs.Base.in_range.Goals as goal

pub returns-then-most-width : goal.returns-then-most-width
returns-then-most-width c =
    let street_of : Timed = timed_street c.args.self.now.street.now in
    let fit : Fit street_of = fit_sound street_of c.args.self.now.base.sound in
    let most_is : c.widest-most.result ≡ green street_of = green_is street_of fit c.widest-most.result c.widest-most.ensures in
    let w = c.args.width in
    c.refused.ensures
    ∙ check_is street_of w false (outside street_of fit w (λ a. omega (arith, asked_green street_of fit w a, most_is)))

pub returns-then-width-lt1 : goal.returns-then-width-lt1
returns-then-width-lt1 c =
    let street_of : Timed = timed_street c.args.self.now.street.now in
    let fit : Fit street_of = fit_sound street_of c.args.self.now.base.sound in
    let w = c.args.width in
    c.refused-then-width-lt1.ensures ∙ check_is street_of w false (outside street_of fit w (λ a. omega (arith, a.some)))

pub overflow_add-width : goal.overflow_add-width
overflow_add-width c =
    let street_of : Timed = timed_street c.args.self.now.street.now in
    let fit : Fit street_of = fit_sound street_of c.args.self.now.base.sound in
    let most_is : c.widest-most.result ≡ green street_of = green_is street_of fit c.widest-most.result c.widest-most.ensures in
    omega (arith, most_is, green_le street_of fit, c.args.self.now.base.sound.longest)

pub returns-then-width-s : goal.returns-then-width-s
returns-then-width-s c =
    let street_of : Timed = timed_street c.args.self.now.street.now in
    let fit : Fit street_of = fit_sound street_of c.args.self.now.base.sound in
    let a = c.args in
    let cycle = ap (λ (x : Checked). x.cycle) c.s.view_is in
    c.refused-then-width-s.ensures
    ∙ check_is street_of a.width false (outside street_of fit a.width (λ in_range_lem. omega (arith, cycle, in_range_lem.reaches, raised_is street_of a.self.now.raised a.self.now.base)))

pub returns : goal.returns
returns c =
    let street_of : Timed = timed_street c.args.self.now.street.now in
    let fit : Fit street_of = fit_sound street_of c.args.self.now.base.sound in
    let most_is : c.widest-most.result ≡ green street_of = green_is street_of fit c.widest-most.result c.widest-most.ensures in
    let a = c.args in
    let cycle = ap (λ (x : Checked). x.cycle) c.s.view_is in
    check_is street_of a.width true
    (within street_of fit a.width (omega arith) (omega (arith, cycle, raised_is street_of a.self.now.raised a.self.now.base)) (omega (arith, most_is)))
