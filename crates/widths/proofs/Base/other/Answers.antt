-- `widths::Base::other` meets its contract: 2B less the width is the surplus over the width and twice the cycle, once B is raised.
use Rattle.std.proofs.Common.{ap}
use native.Mathlib.Omega.{arith}
use Rattle.circle.proofs.Formulas.{other_width_lem}
use Rattle.street.specs.Steps.{Checked, timed_street}
use Rattle.search.proofs.Leading.{fit_sound}
use Rattle.widths.proofs.WidthLaws.{raised_is}
use Rattle.widths.proofs.Base.other.Goals as goal

pub returns : goal.returns
returns c =
    let at = c.args.self.now in
    let s = timed_street at.street.now in
    let fit = fit_sound s at.base.sound in
    let cycle = ap (λ (x : Checked). x.cycle) c.s.view_is in
    omega (arith, cycle, c.saturating_sub.ensures, other_width_lem s fit c.args.width, raised_is s at.raised at.base)
