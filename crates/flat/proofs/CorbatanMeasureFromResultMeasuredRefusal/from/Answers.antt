-- A measure's answer has the fields that its numbers have.
use Rattle.std.proofs.Common.{sym, ap, ◌∙◌}
use Rattle.flat.specs.Flat.{flat_measure}
use Rattle.flat.proofs.Laws.{measure_refused}
use Rattle.flat.proofs.CorbatanMeasureFromResultMeasuredRefusal.from.Goals as goal

pub returns-in-Ok : goal.returns-in-Ok
returns-in-Ok c = ap flat_measure (sym c.in-Ok.is)
