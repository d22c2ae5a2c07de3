-- `handed` meets its contract: a check of the room that passed tells that there is enough.
use Rattle.std.proofs.Common.{length, sym, ◌∙◌}
use Rattle.street.proofs.CheckLaws.{room_enough}
use Rattle.writer.proofs.handed.Goals as goal

pub copy-requires : goal.copy-requires
copy-requires c =
    room_enough (length c.args.sheet.now) (length c.args.bytes.now) (sym c.room.ensures ∙ c.in_ok-room.was)
