-- `offset_lines` meets its contract. The invariant: with the lines of the offsets that are left still to be written, the list becomes what it is to become, and there is room for
-- them. A turn writes the first of these lines.
use lib.ListN.{drop}
use Rattle.decimal.proofs.Writing.{Unwritten}
use Rattle.printed.specs.Text.{offset_lines}
use Rattle.printed.proofs.offset_lines.Given as goal

abbrev pub invariant-loop-offset : goal.invariant-loop-offset
invariant-loop-offset l = Unwritten l.at (offset_lines l.offsets) l.initial.bytes l.next (offset_lines (drop l.offset-index l.offsets)) l.bytes
