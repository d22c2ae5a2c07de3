-- `size` ends: each number that it goes on with is a tenth.
use Rattle.decimal.proofs.+size.Given as goal

abbrev pub decreases-size : goal.decreases-size
decreases-size l = l.x
