-- `stretches::widest` meets its contract. The loop's invariant: `best` is the best of 0 and the candidates before i. A turn holds the candidate at i against it, or passes a signal
-- with no red over, and the best of all of them is the band.
use lib.ListN.{get_or, length}
use Rattle.stretches.specs.Steps.{seen_by}
use Rattle.stretches.proofs.SearchLaws.{BestBand}
use Rattle.stretches.proofs.widest.Given as goal

abbrev pub invariant-loop-i : goal.invariant-loop-i
invariant-loop-i l = BestBand (seen_by l.h (length l.fn.reds) (λ j. get_or l.fn.reds j 0) l.fn.ends) l.i l.best
