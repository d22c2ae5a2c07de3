-- The answer to volumes: the plan's fields are those of the answer, and the volumes stand beside them.
use Rattle.std.proofs.Common.{sym, ap, ◌∙◌}
use Rattle.flat.specs.Flat.{flat_carried}
use Rattle.flat.proofs.Laws.{carried_fields}
use Rattle.flat.proofs.CorbatanVolumesFromResultCarriedRefusal.from.Goals as goal

pub returns-in-Ok : goal.returns-in-Ok
returns-in-Ok c = carried_fields c.in-Ok.carried.outbound c.in-Ok.carried.inbound _ _ c.from.ensures ∙ ap flat_carried (sym c.in-Ok.is)

pub returns-in-Err : goal.returns-in-Err
returns-in-Err c = carried_fields 0 0 _ _ c.from-in-Err.ensures ∙ ap flat_carried (sym c.in-Err.is)
