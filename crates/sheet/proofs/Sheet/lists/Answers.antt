-- `sheet::Sheet::lists` meets its contract: each list is the front of its own array, which an equation by itself shows, and names both where they part.
use mathlib.Core.Path.{refl}
use Rattle.sheet.proofs.Sheet.lists.Goals as goal

pub returns : goal.returns
returns c = refl
