-- The laws of `man`: its range, that it differs from its argument by whole turns, and that nothing else in range does. A signed argument is a difference of
-- two naturals, and whole turns are products that `omega` takes as atoms. Assumes nothing.
use Prim.Native.Nat.{ℕ, ◌+◌, ◌*◌, ◌/◌, ◌%◌, ◌<◌}
use mathlib.Core.Path.{◌≡◌, sym, ap, ap₂, ◌∙◌}
use native.Mathlib.Omega.{arith}
use native.Mathlib.Nat.{mod-lt, mod-add-div', add-mul-mod_self_right, mod-eq_of_lt}
use lib.IntN.{ℤ, pos, negsuc, sub_ℕ, ◌-ℤ◌}
use Rattle.circle.specs.Man.{man}
use Rattle.circle.proofs.Numbers.Signed.{up, down, up_down, sub_eq, pos_sub, pos_minus, minus_sub}

pub man_lt : (H : ℕ) (z : ℤ) → 0 < H → man H z < H
man_lt H (pos a) h = mod-lt a h
man_lt H (negsuc k) h = let l : k % H < H = mod-lt k h in omega arith

-- two numbers that differ by whole turns of the cycle M
pub record Turns (M a b : ℕ) : Type 0 where
  pub p : ℕ
  pub q : ℕ
  pub eq : a + p * M ≡ b + q * M

-- below M there is only one number of each kind
pub turns_unique : {M a b : ℕ} → a < M → b < M → Turns M a b → a ≡ b
turns_unique {M} {a} {b} la lb c =
    sym (mod-eq_of_lt la)
    ∙ sym (add-mul-mod_self_right a c.p M)
    ∙ ap (λ (x : ℕ). x % M) c.eq
    ∙ add-mul-mod_self_right b c.q M
    ∙ mod-eq_of_lt lb

man_split : (H : ℕ) (z : ℤ) → 0 < H → Turns H (man H z + down z) (up z)
unfolding up down
man_split H (pos a) h = record { p = a / H; q = 0; eq = omega (arith, mod-add-div' a H) }
man_split H (negsuc k) h =
    let l : k % H < H = mod-lt k h in
    record { p = 0; q = 1 + k / H; eq = omega (arith, mod-add-div' k H) }

-- from the remainder back to its argument
pub man_back : (H a b : ℕ) → 0 < H → Turns H (man H (sub_ℕ a b) + b) a
man_back H a b h =
    let c = man_split H (sub_ℕ a b) h in
    record { p = c.p; q = c.q; eq = omega (arith, c.eq, up_down a b) }

-- a number in range that differs from a - b by whole turns is the remainder
pub man_unique : (H a b x : ℕ) → x < H → Turns H (x + b) a → man H (sub_ℕ a b) ≡ x
man_unique H a b x l c =
    let pos-H : 0 < H = omega arith in
    let d = man_back H a b pos-H in
    turns_unique (man_lt H (sub_ℕ a b) pos-H) l
    (record { p = d.p + c.q; q = c.p + d.q; eq = omega (arith, c.eq, d.eq) })

-- the same for a difference of two numbers as it is written
pub man_is : (H a b x : ℕ) → x < H → Turns H (x + b) a → man H (pos a -ℤ pos b) ≡ x
man_is H a b x l c = ap (man H) (pos_minus a b) ∙ man_unique H a b x l c

pub man_turns : (H a b : ℕ) → 0 < H → Turns H (man H (pos a -ℤ pos b) + b) a
man_turns H a b h =
    let c = man_back H a b h in
    record { p = c.p; q = c.q; eq = omega (arith, c.eq, ap (man H) (pos_minus a b)) }

-- two differences in a row as one
pub minus_minus : (a b e : ℕ) → pos a -ℤ pos b -ℤ pos e ≡ pos a -ℤ pos (b + e)
minus_minus a b e =
    ap₂ (λ x y. x -ℤ y) (pos_minus a b) (pos_sub e)
    ∙ minus_sub a b e 0
    ∙ sub_eq (a + 0) (b + e) a (b + e) (omega arith)
    ∙ sym (pos_minus a (b + e))

pub man_turns_twice : (H a b e : ℕ) → 0 < H → Turns H (man H (pos a -ℤ pos b -ℤ pos e) + b + e) a
man_turns_twice H a b e h =
    let c = man_turns H a (b + e) h in
    record { p = c.p; q = c.q; eq = omega (arith, c.eq, ap (man H) (minus_minus a b e)) }

-- a remainder may be taken on the way
pub man_step : (H a b e : ℕ) → 0 < H → man H (pos (man H (pos a -ℤ pos b)) -ℤ pos e) ≡ man H (pos a -ℤ pos b -ℤ pos e)
man_step H a b e h =
    let z = man H (pos a -ℤ pos b -ℤ pos e) in
    let c = man_turns H a b h in
    let d = man_turns_twice H a b e h in
    man_is H (man H (pos a -ℤ pos b)) e z (man_lt H (pos a -ℤ pos b -ℤ pos e) h)
    (record { p = d.p + c.q; q = d.q + c.p; eq = omega (arith, c.eq, d.eq) })
