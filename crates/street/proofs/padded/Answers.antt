use Rattle.road.proofs.Paved.{padded_list}
use Rattle.street.proofs.padded.Goals as goal

pub returns : goal.returns
returns c = rw c.copy_from_slice.ensures.after (padded_list c.args.list.now)
