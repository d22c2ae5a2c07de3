-- `eighths::whole` meets its contract: the shift leaves 0 exactly where nothing stands below the point, and then the cast loses nothing.
use Prim.Native.Nat.{◌/◌, ◌%◌}
use mathlib.Core.Path.{sym, ap, ◌∙◌, subst}
use mathlib.Core.Bool.{Bool, cond}
use native.Mathlib.Omega.{arith}
use borrow.Author.Tests.{eq-eqb, ne_eqb}
use lib.Dec.{T}
use lib.Ieee.{binary64, to_bits}
use lib.Ieee.Positive.{num, den}
use Rattle.std.specs.Prelude.{Some, None}
use Rattle.eighths.specs.Steps.{whole_of}
use Rattle.eighths.proofs.Patterns.{Shifted, shifted}
use Rattle.eighths.proofs.Wholes.{Within, within, a_number, castable, cast_is}
use Rattle.eighths.proofs.whole.Goals as goal
use Rattle.eighths.proofs.whole.Goals.{Start}

-- what the caller ensures of the number, and what is then known of its pattern
sized : (c : Start) → Within c.args.x
sized c = within c.args.x c.requires.0 c.requires.1

shape : (c : Start) → Shifted (to_bits binary64 c.args.x) (num c.args.x) (den c.args.x)
shape c = shifted c.args.x (subst T (sym c.well_formed.0.1) tt) (sized c).positive (sized c).low (sized c).high

pub float_to_bits-bits : goal.float_to_bits-bits
float_to_bits-bits c = a_number c.args.x (sized c).positive

pub overflow_sub-fraction : goal.overflow_sub-fraction
overflow_sub-fraction c = (shape c).low

pub overflow_shl-fraction : goal.overflow_shl-fraction
overflow_shl-fraction c = (shape c).high

pub returns-then-fraction-ne0 : goal.returns-then-fraction-ne0
unfolding whole_of
returns-then-fraction-ne0 c =
    let x = c.args.x in
    sym (ap (λ (b : Bool). cond b (Some (num x / den x)) None) (ne_eqb (num x % den x) 0 (λ z. omega (arith, c.if-fraction-ne0.true, (shape c.before).empty z))))

pub float_to_int-result : goal.float_to_int-result
float_to_int-result c = let s = c.before.before in castable s.args.x (sized s) ((shape s).whole (omega (arith, c.if-fraction-ne0.false)))

pub returns : goal.returns
unfolding whole_of
returns c =
    let s = c.before.before in
    let x = s.args.x in
    ap Some (cast_is x (float_to_int-result c)) ∙ sym (ap (λ (b : Bool). cond b (Some (num x / den x)) None) (eq-eqb (num x % den x) 0 ((shape s).whole (omega (arith, c.if-fraction-ne0.false)))))
