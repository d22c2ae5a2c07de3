-- Offsets as they are defined: where nothing is moved they are the method's own, and they go by the signals alone. Assumes nothing.
use Prim.Native.Nat.{ℕ, ◌<◌}
use mathlib.Core.Path.{◌≡◌, refl}
use native.Mathlib.Omega.{arith}
use Rattle.circle.specs.Method.{Timed, halves, reference, offset}
use Rattle.circle.specs.Moved.{lowered}
use Rattle.circle.proofs.Numbers.{man_is}
use Rattle.circle.proofs.Formulas.{offset_lt, Agree, outbound_lowering_agree, inbound_lowering_agree, lowered_agree}
use Rattle.widths.specs.declared.Shift.TheVariants.{Unmoved, Outbound, Inbound}
use Rattle.widths.specs.declared.Shift.{Shift}
use Rattle.offsets.specs.Moved.{moved_offset, lowering}

pub unmoved_offset : (s : Timed) (j : ℕ) → 0 < s.cycle → moved_offset Unmoved s j ≡ offset s (reference s) j
unfolding lowered
unmoved_offset s j some =
    let f = offset s (reference s) j in
    man_is (halves s) f 0 f (offset_lt s (reference s) j some) (record { p = 0; q = 0; eq = omega arith })

module _ (s z : Timed) (agree : Agree s z) (some : 0 < s.signals) where
  pub lowering_agree : (shift : Shift) (j : ℕ) → j < s.signals → lowering shift s j ≡ lowering shift z j
  lowering_agree Unmoved j l = refl
  lowering_agree (Outbound w) j l = outbound_lowering_agree s z agree some w j l
  lowering_agree (Inbound w) j l = inbound_lowering_agree s z agree some w j l

  pub moved_agree : (shift : Shift) (j : ℕ) → j < s.signals → moved_offset shift s j ≡ moved_offset shift z j
  moved_agree shift j l = lowered_agree s z agree some (lowering shift s) (lowering shift z) j l (lowering_agree shift j l)
