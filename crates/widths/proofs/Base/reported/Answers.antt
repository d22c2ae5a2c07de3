-- `widths::Base::reported` meets its contract: the equal width is B or nothing, once B is raised.
use Rattle.std.proofs.Common.{ℕ, ◌≡◌, sym, ap, ◌∙◌}
use native.Mathlib.Omega.{arith}
use Rattle.circle.specs.Method.{equal_width}
use Rattle.circle.proofs.Formulas.{equal_width_lem}
use Rattle.street.specs.Steps.{Checked, timed_street}
use Rattle.search.proofs.Leading.{fit_sound}
use Rattle.widths.specs.Steps.{widths_of}
use Rattle.widths.specs.declared.Widths.{Widths}
use Rattle.widths.proofs.WidthLaws.{raised_is}
use Rattle.widths.proofs.Base.reported.Goals as goal

abbrev equals : ℕ → Widths
equals width = record { outbound = width; inbound = width }

pub returns-in-Unmoved : goal.returns-in-Unmoved
returns-in-Unmoved c =
    let at = c.args.self.now in
    let s = timed_street at.street.now in
    let cycle = ap (λ (x : Checked). x.cycle) c.s.view_is in
    let e : c.saturating_sub-equal.result ≡ equal_width s = omega (arith, cycle, c.saturating_sub-equal.ensures, equal_width_lem s (fit_sound s at.base.sound), raised_is s at.raised at.base) in
    ap equals e ∙ sym (ap (λ x. widths_of x s) c.in-Unmoved.is)
