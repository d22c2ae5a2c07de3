-- `eighths::from_bits` meets its contract: where the test says so the pattern is a NaN's, and 0 / 0 is that NaN.
use mathlib.Core.Path.{refl, sym}
use native.Mathlib.Omega.{arith}
use lib.Ieee.{div, of_bits}
use Rattle.eighths.proofs.Patterns.{a_nan, no_nan}
use Rattle.eighths.proofs.from_bits.Goals as goal

pub returns-then-bits-gt9218868437227405312 : goal.returns-then-bits-gt9218868437227405312
unfolding div of_bits
returns-then-bits-gt9218868437227405312 c = sym (a_nan c.args.bits (omega (arith, c.if-bits-gt9218868437227405312.true)))

pub float_from_bits-result : goal.float_from_bits-result
float_from_bits-result c = no_nan c.args.bits (omega (arith, c.if-bits-gt9218868437227405312.false))

pub returns : goal.returns
returns c = refl
