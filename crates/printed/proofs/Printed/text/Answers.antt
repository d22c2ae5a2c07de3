-- `printed::Printed::text` meets its contract, as an equation by itself shows.
use mathlib.Core.Path.{refl}
use Rattle.printed.proofs.Printed.text.Goals as goal

pub returns : goal.returns
returns c = refl
