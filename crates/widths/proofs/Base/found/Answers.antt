-- `widths::Base::found` meets its contract: the test, with B raised, tells whether both platoons fit into 2B.
use Rattle.std.proofs.Common.{ℕ, ◌≡◌, ◌-◌, ◌*◌, ◌/◌, min, sym, ap, ap₂, ◌∙◌}
use native.Mathlib.Omega.{arith}
use Rattle.circle.specs.Moved.{found_width}
use Rattle.circle.proofs.Formulas.{green_is, found_fit, found-past}
use Rattle.street.specs.Steps.{Checked, timed_street}
use Rattle.search.proofs.Leading.{fit_sound}
use Rattle.widths.proofs.WidthLaws.{raised_is}
use Rattle.widths.proofs.Base.found.Goals.{then-fits, else-fits}
use Rattle.widths.proofs.Base.found.Goals as goal

pub returns : goal.returns
returns c =
    let at = c.args.self.now in
    let s = timed_street at.street.now in
    let fit = fit_sound s at.base.sound in
    let B-is = raised_is s at.raised at.base in
    let cycle = ap (λ (x : Checked). x.cycle) c.s.view_is in
    let most = green_is s fit c.args.most c.requires.0 in
    let asked : min c.if-fits.asked c.args.most ≡ found_width s c.args.longer c.args.sum =
    elim c.if-fits.branch [
      | then-fits w ↦ ap₂ min (w.asked-is ∙ w.portion-asked.ensures ∙ ap₂ (λ (b k : ℕ). (2 * b - 2 * (2 * k)) * c.args.longer / c.args.sum) B-is cycle) most ∙ sym (found_fit s fit c.args.longer c.args.sum (omega (arith, B-is, cycle, w.if-fits.true)))
      | else-fits w ↦ ap₂ min w.asked-is most ∙ sym (found-past s fit c.args.longer c.args.sum (omega (arith, B-is, cycle, w.if-fits.false)))
    ] in
    c.min.ensures ∙ asked
