-- What is added to a reaches the next multiple of h past b.
use Rattle.circle.proofs.Numbers.Rounds.{remainder_man}
use Rattle.circle.proofs.remainder.Goals as goal

pub returns : goal.returns
returns c = remainder_man _ _ _ c.requires.0
