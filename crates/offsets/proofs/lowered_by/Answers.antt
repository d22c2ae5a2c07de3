-- `offsets::lowered_by` meets its contract: each shift's lowering is the surplus that its arm takes, and a signal that rests has none.
use mathlib.Core.Path.{sym, ap, ◌∙◌}
use native.Mathlib.Omega.{arith}
use Rattle.widths.specs.Steps.{shift_width}
use Rattle.offsets.specs.Steps.{lowering_of}
use Rattle.offsets.proofs.OffsetLaws.{lowering-none, lowering_out, lowering_in}
use Rattle.offsets.proofs.lowered_by.Goals as goal

pub overflow_add-u : goal.overflow_add-u
overflow_add-u c = omega (arith, ap shift_width c.in-Outbound.is)

pub overflow_add-width : goal.overflow_add-width
overflow_add-width c = omega (arith, ap shift_width c.in-Inbound.is)

pub returns-then-red-eq0 : goal.returns-then-red-eq0
returns-then-red-eq0 c =
    let a = c.args in
    sym (lowering-none a.raised a.red a.u a.shift (λ l. omega (arith, c.if-red-eq0.true)))

pub returns-in-Outbound : goal.returns-in-Outbound
returns-in-Outbound c =
    let a = c.args in
    c.saturating_sub.ensures
    ∙ sym (lowering_out a.raised a.red a.u _ (omega (arith, c.if-red-eq0.false)))
    ∙ sym (ap (λ x. lowering_of x a.raised a.red a.u) c.in-Outbound.is)

pub returns-in-Inbound : goal.returns-in-Inbound
returns-in-Inbound c =
    let a = c.args in
    c.saturating_sub-in-Inbound.ensures
    ∙ sym (lowering_in a.raised a.red a.u _ (omega (arith, c.if-red-eq0.false)))
    ∙ sym (ap (λ x. lowering_of x a.raised a.red a.u) c.in-Inbound.is)
