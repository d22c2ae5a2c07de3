-- The one signed number, B, survives its 32 bits: a difference of two numbers of 31 bits fits them, so that both casts and the difference keep it. Assumes nothing.
use Prim.Native.Nat.{ℕ, ◌≤◌, ◌<◌, ◌^◌}
use mathlib.Core.Path.{◌≡◌, sym, ap₂, ◌∙◌, subst}
use native.Mathlib.Omega.{arith}
use native.Mathlib.Decide.{dec_lt}
use lib.IntN.{ℤ, pos, sub_ℕ, ◌-ℤ◌}
use mir.Syntax.{w32}
use mir.Val.{SFits, to_z, of_z}
use mir.ValLaws.{to_z-of_z, to_z_pos}
use Rattle.circle.proofs.Numbers.{sub_pos, sub_neg, pos_minus}

-- a difference of two numbers of 31 bits fits 32
small_fits : (a h : ℕ) → a < 2 ^ 31 → h < 2 ^ 31 → SFits w32 (pos a -ℤ pos h)
small_fits a h la lh = subst (SFits w32) (sym (pos_minus a h)) (go (dec_lt a h))
  where
    go : Dec (a < h) → SFits w32 (sub_ℕ a h)
    go (yes l) = subst (SFits w32) (sym (sub_neg a h l)) (record { sfits = omega arith })
    go (no n) = let l : h ≤ a = omega arith in subst (SFits w32) (sym (sub_pos a h l)) (record { sfits = omega arith })

-- the two casts of the code
signed_read : (a h : ℕ) → a < 2 ^ 31 → h < 2 ^ 31 → to_z w32 a -ℤ to_z w32 h ≡ pos a -ℤ pos h
signed_read a h la lh = ap₂ (λ x y. x -ℤ y) (to_z_pos w32 a (omega arith)) (to_z_pos w32 h (omega arith))

pub signed_fits : (a h : ℕ) → a < 2 ^ 31 → h < 2 ^ 31 → SFits w32 (to_z w32 a -ℤ to_z w32 h)
signed_fits a h la lh = subst (SFits w32) (sym (signed_read a h la lh)) (small_fits a h la lh)

pub signed_is : (a h : ℕ) → a < 2 ^ 31 → h < 2 ^ 31 → to_z w32 (of_z w32 (to_z w32 a -ℤ to_z w32 h)) ≡ pos a -ℤ pos h
signed_is a h la lh = to_z-of_z w32 (to_z w32 a -ℤ to_z w32 h) (signed_fits a h la lh) ∙ signed_read a h la lh

pub reread : (z : ℤ) (a h : ℕ) → a < 2 ^ 31 → h < 2 ^ 31 → z ≡ pos a -ℤ pos h → to_z w32 (of_z w32 z) ≡ z
reread z a h la lh e = to_z-of_z w32 z (subst (SFits w32) (sym e) (small_fits a h la lh))
