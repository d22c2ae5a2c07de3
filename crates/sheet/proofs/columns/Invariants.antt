-- `columns` meets its contract. The invariant: the lines from the start are the `i` lines in the arrays above the lines from here, and the
-- arrays are 0 from entry `i` on. A line that can be read moves its two numbers from the right of that equation to the arrays.
use Rattle.sheet.proofs.Lines.{SoFar}
use Rattle.sheet.proofs.columns.Given as goal

abbrev pub invariant-loop-i : goal.invariant-loop-i
invariant-loop-i l = SoFar l.bytes l.count l.left l.right l.rest l.i
