-- Laws of volumes. A platoon is the least number of halves that is enough for its volume, so that a volume fits a width exactly when V·C·h is at most 18,000 times the width. Of all volumes that fit there is
-- just one largest, and each of the others is below it. And what a passed check tells: the numbers are so small that their product is too. Assumes nothing.
use Rattle.std.specs.Prelude.{Ok}
use Prim.Native.Nat.{ℕ, ◌+◌, ◌-◌, ◌*◌, ◌/◌, ◌≤◌, ◌<◌, min}
use mathlib.Core.Path.{◌≡◌}
use native.Mathlib.Omega.{arith}
use native.Mathlib.Decide.{dec_le}
use native.Mathlib.Nat.{mod-lt, mod-add-div', mul-le-mul, mul-le-mul_right, min-eq_left, min-eq_right}
use lib.Dec.{leb}
use borrow.Author.Tests.{leb-true}
use Rattle.street.specs.Limits.{max_cycle, max_volume, min_headway, max_headway}
use Rattle.street.specs.Checks.{unless_at, within}
use Rattle.street.specs.declared.Code.TheVariants.{Volume}
use Rattle.street.proofs.CheckLaws.{passes_at, within_range}
use Rattle.street.proofs.Passed.{first_passed, rest_passed}
use Rattle.traffic.specs.Volumes.{half_hour, platoon_of, RoundedUp, Largest}
use Rattle.traffic.specs.Checks.{volume_check}

-- a quotient is the last number whose product is not above the dividend
pub quotient : (x y : ℕ) → 0 < y → (x / y * y ≤ x) × (x < (x / y + 1) * y)
quotient x y some = omega (arith, mod-lt x some, mod-add-div' x y)

-- a number divided by 18,000 and rounded up is the least that is enough
up : (x q : ℕ) → (x ≤ half_hour * ((x + (half_hour - 1)) / half_hour)) × (x ≤ half_hour * q → (x + (half_hour - 1)) / half_hour ≤ q)
up x q =
    let (low, high) = quotient (x + (half_hour - 1)) half_hour (omega arith) in
    (omega arith, λ e. omega arith)

pub rounded_up : (C h volume : ℕ) → RoundedUp C h volume (platoon_of C h volume)
rounded_up C h volume = record { enough = (up (volume * C * h) 0).0; least = λ q. (up (volume * C * h) q).1 }

-- and there is just one such number
pub rounded_up_only : (C h volume p : ℕ) → RoundedUp C h volume p → p ≡ platoon_of C h volume
rounded_up_only C h volume p is =
    let own = rounded_up C h volume in
    omega (arith, is.least (platoon_of C h volume) own.enough, own.least p is.enough)

-- a platoon fits a width, or does not, by the product
fits_by : (C h volume w : ℕ) → volume * C * h ≤ half_hour * w → platoon_of C h volume ≤ w
fits_by C h volume w = (rounded_up C h volume).least w

past_by : (C h volume w : ℕ) → half_hour * w < volume * C * h → w < platoon_of C h volume
past_by C h volume w l = omega (arith, l, (rounded_up C h volume).enough)

-- a larger volume has no shorter platoon
pub longer : (C h volume more : ℕ) → volume ≤ more → platoon_of C h volume ≤ platoon_of C h more
longer C h volume more l =
    let step : volume * C * h ≤ more * C * h = mul-le-mul_right h (mul-le-mul_right C l) in
    fits_by C h volume (platoon_of C h more) (omega (arith, step, (rounded_up C h more).enough))

-- no volume that fits is above the largest
pub largest_of_all : (C h w volume other : ℕ) → Largest C h w volume → other ≤ max_volume → platoon_of C h other ≤ w → other ≤ volume
largest_of_all C h w volume other is small fits = go (dec_le other volume)
  where
    go : Dec (other ≤ volume) → other ≤ volume
    go (yes l) = l
    go (no n) =
        let above : volume + 1 ≤ other = omega arith in
        let below : volume < max_volume = omega arith in
        absurd (omega (arith, is.next below, longer C h (volume + 1) other above))

-- so there is just one
pub largest_only : (C h w volume other : ℕ) → Largest C h w volume → Largest C h w other → volume ≡ other
largest_only C h w volume other is too =
    omega (arith, largest_of_all C h w volume other is too.most too.fits, largest_of_all C h w other volume too is.most is.fits)

-- by division: as many vehicles as fit, at most 10,000
pub largest_part : (C h w volume : ℕ) → volume * (C * h) ≤ half_hour * w → half_hour * w < (volume + 1) * (C * h) → Largest C h w (min volume max_volume)
largest_part C h w volume low high = go (dec_le volume max_volume)
  where
    go : Dec (volume ≤ max_volume) → Largest C h w (min volume max_volume)
    go (yes small) =
        rw (min-eq_left small)
        (record { most = small; fits = fits_by C h volume w (omega arith); next = λ l. past_by C h (volume + 1) w (omega arith) })
    go (no large) =
        let above : max_volume ≤ volume = omega arith in
        let step = mul-le-mul_right (C * h) above in
        rw (min-eq_right above)
        (record { most = omega arith; fits = fits_by C h max_volume w (omega arith); next = λ l. absurd (omega arith) })

-- what the check tells of volumes and a headway that passed
pub record Judged (out back h : ℕ) : Type 0 where
  pub outbound : out ≤ max_volume
  pub inbound : back ≤ max_volume
  pub headway : h ≤ max_headway

pub judged : (out back h : ℕ) → volume_check out back h ≡ (Ok tt) → Judged out back h
unfolding volume_check
judged out back h e =
    let first = unless_at 1 (leb out max_volume) Volume in
    let second = unless_at 2 (leb back max_volume) Volume in
    let third = unless_at 3 (within min_headway max_headway h) Volume in
    let rest = rest_passed first _ e in
    let last = rest_passed second _ rest in
    record {
      outbound = leb-true out max_volume (passes_at 1 _ Volume (first_passed first _ e));
      inbound = leb-true back max_volume (passes_at 2 _ Volume (first_passed second _ rest));
      headway = (within_range min_headway max_headway h (passes_at 3 _ Volume (first_passed third (Ok tt) last))).high;
    }

-- the product of a volume, a cycle and a headway that were judged
pub product_small : (C h volume : ℕ) → C ≤ max_cycle → h ≤ max_headway → volume ≤ max_volume → (volume * C ≤ max_volume * max_cycle) × (volume * C * h ≤ max_volume * max_cycle * max_headway)
product_small C h volume c k v =
    let first = mul-le-mul v c in
    (first, mul-le-mul first k)
