-- `answer_lines` meets its contract: a plan's first line and then the offsets are what its text is.
use native.Mathlib.Omega.{arith}
use Rattle.decimal.proofs.Writing.{writes_twice}
use Rattle.printed.proofs.answer_lines.Goals as goal

pub returns-in-Ok : goal.returns-in-Ok
returns-in-Ok c = rw c.in-Ok.is (writes_twice (omega arith) c.plan_line-next.ensures c.offset_lines.ensures)
