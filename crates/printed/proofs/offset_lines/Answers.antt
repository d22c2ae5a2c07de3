-- A turn writes the first of the lines that are left.
use native.Mathlib.Omega.{arith}
use Rattle.decimal.proofs.Writing.{part_fits, part_written, all_written}
use Rattle.printed.proofs.Lines.{one_line, offset_line, no_offset_line}
use Rattle.printed.specs.Text.{offset_lines}
use Rattle.printed.proofs.offset_lines.Goals as goal

pub write_ended-next-requires : goal.write_ended-next-requires
write_ended-next-requires c =
    part_fits c.requires c.loop-offset.invariant (one_line _) (offset_lines _) (offset_line c.args.offsets.now c.loop-offset.offset-index c.loop-offset-test.true)

pub loop-offset-preserved : goal.loop-offset-preserved
loop-offset-preserved c =
    part_written c.requires c.loop-offset.invariant (one_line _) (offset_lines _)
    (offset_line c.args.offsets.now c.loop-offset.offset-index c.loop-offset-test.true)
    c.write_ended-next.ensures

pub returns : goal.returns
returns c = all_written (no_offset_line c.args.offsets.now c.loop-offset.offset-index (omega arith)) c.loop-offset.invariant
