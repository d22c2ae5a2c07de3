-- `widths::Base::share` meets its contract: the width found is at most g, so that what it leaves can be told, and the test on that is the rule's own.
use mathlib.Core.Path.{sym, ap, ◌∙◌}
use native.Mathlib.Omega.{arith}
use Rattle.circle.specs.Signed.{or_zero}
use Rattle.circle.specs.Moved.{other_width}
use Rattle.circle.proofs.Formulas.{found_le, platoons_none, platoons_some}
use Rattle.street.specs.Steps.{timed_street}
use Rattle.search.proofs.Leading.{fit_sound}
use Rattle.widths.proofs.WidthLaws.{widest_le}
use Rattle.widths.proofs.Base.share.Goals as goal

pub other-requires : goal.other-requires
other-requires c =
    let s = timed_street c.args.self.now.street.now in
    (omega (arith, c.found-width.ensures, found_le s c.args.longer c.args.sum, widest_le s (fit_sound s c.args.self.now.base.sound), c.args.self.now.base.sound.longest))

pub returns-then-other-eq0 : goal.returns-then-other-eq0
returns-then-other-eq0 c =
    let a = c.args in
    let s = timed_street a.self.now.street.now in
    ap or_zero c.widest-most.ensures
    ∙ sym (platoons_none s a.longer a.sum (omega (arith, c.other.ensures, ap (other_width s) c.found-width.ensures)))

pub returns : goal.returns
returns c =
    let a = c.args in
    let s = timed_street a.self.now.street.now in
    c.found-width.ensures
    ∙ sym (platoons_some s a.longer a.sum (λ none. omega (arith, none, c.other.ensures, ap (other_width s) c.found-width.ensures)))
