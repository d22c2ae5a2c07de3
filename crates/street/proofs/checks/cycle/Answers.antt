-- `street::checks::cycle` meets its contract: where the number lies decides the definition.
use Rattle.std.proofs.lemmas.Bool.{not-true, not-false}
use Rattle.std.proofs.Common.{sym, ◌∙◌}
use Rattle.street.specs.Checks.{cycle_check}
use Rattle.street.proofs.checks.cycle.Goals as goal

pub returns-then-outside : goal.returns-then-outside
unfolding cycle_check
returns-then-outside c = simp (c.refused.ensures, not-true _ (sym c.outside.ensures ∙ c.if-outside.true))

pub returns : goal.returns
unfolding cycle_check
returns c = simp (not-false _ (sym c.outside.ensures ∙ c.if-outside.false))
