-- `fault` meets its contract: it is the definition's refusal, so that one of another code is refused by its name.
use mathlib.Core.Path.{refl}
use Rattle.sheet.proofs.fault.Goals as goal

pub returns : goal.returns
returns c = refl
