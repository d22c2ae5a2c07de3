use native.Mathlib.Omega.{arith}
use Rattle.decimal.proofs.Writing.{writes_twice}
use Rattle.writer.proofs.section.Goals as goal

pub returns : goal.returns
returns c = writes_twice (omega arith) c.write_ended-lines.ensures c.pair_lines.ensures
