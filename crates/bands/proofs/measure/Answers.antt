-- `bands::measure` meets its contract, by its three ways out: too few or too many offsets, a street that is refused, and one whose checks passed, whose numbers are those of the
-- typed lists.
use Rattle.std.proofs.Common.{rules, ◌≡◌, ap, sym, ◌∙◌, length, Result, Err}
use Rattle.street.specs.Lists.{Lists, signals}
use Rattle.street.specs.Steps.{Checked, built}
use Rattle.street.specs.declared.Refusal.{Refusal}
use Rattle.street.proofs.Sound.{built_ok, built_err}
use Rattle.bands.proofs.MeasureLaws.{measure_short, measure_refused, measure_built}
use Rattle.bands.proofs.measure.Goals as goal

-- with as many offsets as the reds of the lists as they are held
module _ (held l : Lists) (same : held ≡ l) where
  reds : length held.reds ≡ signals l
  reds = ap (λ (x : Lists). length x.reds) same

  made : (r : Result Checked Refusal) → r ≡ built l (length held.reds) → r ≡ built l (signals l)
  made r e = e ∙ ap (built l) reds

pub returns-then-offsets-street : goal.returns-then-offsets-street
returns-then-offsets-street c =
    measure_short c.args.street.now c.args.offsets.now (λ e. c.if-offsets-street.true (e ∙ sym (reds _ _ c.street.view_is)))

pub returns-in_err-s : goal.returns-in_err-s
returns-in_err-s c =
    let l = c.args.street.now in
    let refusal : c.from_residual.result ≡ Err c.in_err-s.field-0.0 = search rules in
    refusal
    ∙ measure_refused l c.args.offsets.now _ (c.if-offsets-street.false ∙ reds _ _ c.street.view_is)
    (built_err l (signals l) _ (sym (made _ _ c.street.view_is _ c.new.ensures) ∙ c.in_err-s.was))

pub returns : goal.returns
returns c =
    let l = c.args.street.now in
    let told = built_ok l (signals l) c.in_ok-s.s (sym (made _ _ c.street.view_is _ c.new.ensures) ∙ c.in_ok-s.was) in
    measure_built l c.args.offsets.now c.in_ok-s.s c.on_street.result (c.if-offsets-street.false ∙ reds _ _ c.street.view_is) told.0 told.1 c.on_street.ensures
