-- Each list stands in its own place.
use Rattle.std.proofs.Common.{refl}
use Rattle.street.proofs.Lists.new.Goals as goal

pub returns : goal.returns
returns c = refl
