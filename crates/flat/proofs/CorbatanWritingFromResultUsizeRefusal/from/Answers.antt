-- The writer's answer has the fields that its numbers have.
use Rattle.std.proofs.Common.{sym, ap, ◌∙◌}
use Rattle.flat.specs.Flat.{flat_writing}
use Rattle.flat.proofs.Laws.{writing_refused}
use Rattle.flat.proofs.CorbatanWritingFromResultUsizeRefusal.from.Goals as goal

pub returns-in-Ok : goal.returns-in-Ok
returns-in-Ok c = ap flat_writing (sym c.in-Ok.is)

pub returns-in-Err : goal.returns-in-Err
returns-in-Err c =
    writing_refused c.in-Err.f c.from.result c.from.ensures ∙ ap flat_writing (sym c.in-Err.is)
