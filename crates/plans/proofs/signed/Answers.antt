-- `plans::signed` meets its contract: both numbers are small, so that the casts and the difference keep them.
use Rattle.plans.proofs.SignedLaws.{signed_fits, signed_is}
use Rattle.plans.proofs.signed.Goals as goal

pub overflow_sub-result : goal.overflow_sub-result
overflow_sub-result c = signed_fits c.args.raised c.args.h c.requires.0 c.requires.1

pub returns : goal.returns
returns c = signed_is c.args.raised c.args.h c.requires.0 c.requires.1
