use Rattle.sheet.proofs.Lines.{so_far-none, so_far_all, no_line, one_line}
use Rattle.sheet.proofs.columns.Goals as goal

pub loop-i-init : goal.loop-i-init
loop-i-init c = so_far-none c.args.bytes.now c.args.count c.args.left.now c.args.right.now c.requires.1 c.requires.2

pub returns-in_err-x : goal.returns-in_err-x
returns-in_err-x c = rw c.from_residual.ensures (no_line c.loop-i.invariant c.loop-i-test.true c.requires.0 (c.in_err-x.ensures))

pub loop-i-preserved : goal.loop-i-preserved
loop-i-preserved c = one_line c.loop-i.invariant c.loop-i-test.true c.requires.0 _ _ _ (c.in_ok-x.ensures)

pub returns : goal.returns
returns c = so_far_all c.loop-i.invariant c.requires.0 c.loop-i-test.false
