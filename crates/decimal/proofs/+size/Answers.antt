use native.Mathlib.Omega.{arith}
use mathlib.Core.Path.{sym, ap}
use lib.ListN.{length}
use Prim.Native.Nat.{◌/◌}
use Rattle.decimal.proofs.Digits.{one_digit, size-more, decimal-ten}
use Rattle.decimal.proofs.+size.Goals as goal

pub overflow_add-result : goal.overflow_add-result
overflow_add-result t c = omega (arith, decimal-ten (c.args.x / 10) (omega arith))

pub returns-then-x-lt10 : goal.returns-then-x-lt10
returns-then-x-lt10 t c = sym (ap length (one_digit 19 c.args.x (omega arith)))

pub returns-else-x-lt10 : goal.returns-else-x-lt10
returns-else-x-lt10 t c = omega (arith, size-more c.args.x (omega arith) (omega arith))
