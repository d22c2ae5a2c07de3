-- `pair_lines` meets its contract. The invariant: with the lines of the pairs that are left still to be written, the list becomes what it is to become, and there is room for them.
-- A turn writes the first of these lines, in two items.
use Rattle.decimal.proofs.Writing.{Unwritten}
use Rattle.sheet.specs.Form.{pair_lines}
use Rattle.writer.proofs.pair_lines.Given as goal

abbrev pub invariant-loop-left : goal.invariant-loop-left
invariant-loop-left l =
    Unwritten l.at (pair_lines l.left l.right) l.initial.bytes l.next (pair_lines l.left-iterator.a.rest.now l.left-iterator.b.rest.now) l.bytes
