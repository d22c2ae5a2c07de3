-- How code takes `man` of a difference of naturals: by two remainders; or, where both numbers lie on the cycle, by a comparison and differences. Each number in range differs
-- from the difference by whole turns. Assumes nothing.
use Prim.Native.Nat.{ℕ, ◌+◌, ◌-◌, ◌/◌, ◌%◌, ◌≤◌, ◌<◌}
use mathlib.Core.Path.{◌≡◌, sym}
use native.Mathlib.Omega.{arith}
use native.Mathlib.Nat.{mod-lt, mod-add-div'}
use lib.IntN.{pos, ◌-ℤ◌}
use Rattle.circle.specs.Man.{man}
use Rattle.circle.proofs.Numbers.Man.{man_is}

pub remainder_man : (h a b : ℕ) → 1 ≤ h → (a + (h - b % h)) % h ≡ man h (pos a -ℤ pos b)
remainder_man h a b some =
    let l : b % h < h = mod-lt b some in
    sym
    (man_is h a b ((a + (h - b % h)) % h) (mod-lt (a + (h - b % h)) some)
    (record {
      p = (a + (h - b % h)) / h;
      q = 1 + b / h;
      eq = omega (arith, mod-add-div' (a + (h - b % h)) h, mod-add-div' b h);
    }))

pub since-within : (h a b : ℕ) → a < h → b ≤ a → a - b ≡ man h (pos a -ℤ pos b)
since-within h a b l le = sym (man_is h a b (a - b) (omega arith) (record { p = 0; q = 0; eq = omega arith }))

pub since_round : (h a b : ℕ) → b < h → a < b → a + h - b ≡ man h (pos a -ℤ pos b)
since_round h a b l lt = sym (man_is h a b (a + h - b) (omega arith) (record { p = 0; q = 1; eq = omega arith }))
