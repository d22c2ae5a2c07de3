-- The nearest second: the definition is the one number that its meaning allows, and round the cycle it differs from the start of green by 9 halves down to 10 up. A cycle of whole seconds
-- has C/10 of them, which are H halves. Assumes nothing.
use Rattle.std.specs.Prelude.{Ok}
use Prim.Native.Nat.{ℕ, ◌+◌, ◌*◌, ◌/◌, ◌%◌, ◌-◌, ◌≤◌, ◌<◌}
use mathlib.Core.Path.{◌≡◌, sym, ap, ap₂, ◌∙◌}
use native.Mathlib.Omega.{arith}
use native.Mathlib.Nat.{mod-lt, mod-add-div', mod-eq_of_lt, mul-mod_left}
use lib.IntN.{pos, ◌+ℤ◌, ◌-ℤ◌}
use lib.Dec.{eqb}
use borrow.Author.Tests.{eqb-true}
use Rattle.circle.specs.Man.{man}
use Rattle.circle.proofs.Numbers.{Turns, man_is, man_turns}
use Rattle.street.specs.declared.Code.TheVariants.{Seconds}
use Rattle.street.proofs.CheckLaws.{passes}
use Rattle.seconds.specs.Seconds.{second_ticks, second_halves, seconds_check, framed, green_start, NearestSecond, nearest_second, second_of}

-- a cycle that passed is a whole number of seconds
pub whole-seconds : (cycle : ℕ) → seconds_check cycle ≡ (Ok tt) → second_ticks * (cycle / second_ticks) ≡ cycle
unfolding seconds_check
whole-seconds cycle e =
    let none = eqb-true (cycle % second_ticks) 0 (passes (eqb (cycle % second_ticks) 0) Seconds e) in
    omega (arith, mod-add-div' cycle second_ticks)

pub nearest_is : (x : ℕ) → NearestSecond x (nearest_second x)
nearest_is x =
    let split = mod-add-div' (x + 10) second_halves in
    let rest : (x + 10) % second_halves < second_halves = mod-lt (x + 10) (omega arith) in
    record { most = omega arith; least = omega arith }

pub nearest_only : (x s s' : ℕ) → NearestSecond x s → NearestSecond x s' → s ≡ s'
nearest_only x s s' one other = omega (arith, one.most, one.least, other.most, other.least)

-- offset plus red, by going back the red's length before 0
pub red_on : (H centre red : ℕ) → 0 < H → man H (pos centre -ℤ pos (man H (pos 0 -ℤ pos red))) ≡ man H (pos centre +ℤ pos red)
red_on H centre red some =
    let before = man_turns H 0 red some in
    man_is H centre (man H (pos 0 -ℤ pos red)) ((centre + red) % H) (mod-lt (centre + red) some)
    (record { p = before.p + (centre + red) / H; q = before.q; eq = omega (arith, before.eq, mod-add-div' (centre + red) H) })

-- so the start of green, by going back the frame from the offset and the red's length from 0, and then the one from the other
pub green_is : (cycle frame offset red centre before green : ℕ) → 0 < cycle → centre ≡ man (2 * cycle) (pos offset -ℤ pos frame) → before ≡ man (2 * cycle) (pos 0 -ℤ pos red) → green ≡ man (2 * cycle) (pos centre -ℤ pos before) → green ≡ green_start cycle frame offset red
green_is cycle frame offset red centre before green some is back goes =
    let H = 2 * cycle in
    goes
    ∙ ap₂ (λ (x y : ℕ). man H (pos x -ℤ pos y)) is back
    ∙ red_on H (framed cycle frame offset) red (omega arith)

-- at the end of the cycle the nearest second is the first one again
pub goes_round : (cycle x : ℕ) → seconds_check cycle ≡ (Ok tt) → second_ticks * nearest_second x ≡ cycle → 0 ≡ nearest_second x % (cycle / second_ticks)
goes_round cycle x whole full =
    let all : 1 * (cycle / second_ticks) ≡ nearest_second x = omega (arith, whole-seconds cycle whole) in
    sym (ap (λ (s : ℕ). s % (cycle / second_ticks)) (sym all) ∙ mul-mod_left 1 (cycle / second_ticks))

-- and before it is one of the cycle's
pub stays : (cycle x : ℕ) → seconds_check cycle ≡ (Ok tt) → x < 2 * cycle → (second_ticks * nearest_second x ≡ cycle → ⊥) → nearest_second x ≡ nearest_second x % (cycle / second_ticks)
stays cycle x whole less other =
    let near = nearest_is x in
    let below : nearest_second x < cycle / second_ticks = omega (arith, whole-seconds cycle whole, near.most, other) in
    sym (mod-eq_of_lt below)

-- both of a signal's start of green, whose second a cabinet gets
pub green_round : (cycle frame offset red x : ℕ) → seconds_check cycle ≡ (Ok tt) → x ≡ green_start cycle frame offset red → second_ticks * nearest_second x ≡ cycle → 0 ≡ second_of cycle frame offset red
unfolding second_of
green_round cycle frame offset red x whole green full =
    goes_round cycle x whole full ∙ ap (λ (y : ℕ). nearest_second y % (cycle / second_ticks)) green

pub green_stays : (cycle frame offset red x : ℕ) → 0 < cycle → seconds_check cycle ≡ (Ok tt) → x ≡ green_start cycle frame offset red → (second_ticks * nearest_second x ≡ cycle → ⊥) → nearest_second x ≡ second_of cycle frame offset red
unfolding second_of
green_stays cycle frame offset red x some whole green other =
    let around : 0 < 2 * cycle = omega arith in
    let less : x < 2 * cycle = omega (arith, green, mod-lt (framed cycle frame offset + red) around) in
    stays cycle x whole less other ∙ ap (λ (y : ℕ). nearest_second y % (cycle / second_ticks)) green

-- a start of green is nudged: up by 10 halves less some η of 0 to 19
pub record Nudged (cycle frame offset red : ℕ) : Type 0 where
  pub η : ℕ
  pub within : η ≤ 19
  pub turns : Turns (2 * cycle) (second_halves * second_of cycle frame offset red + η + frame) (offset + red + 10)

pub nudged : (cycle frame offset red : ℕ) → 0 < cycle → seconds_check cycle ≡ (Ok tt) → Nudged cycle frame offset red
unfolding second_of
nudged cycle frame offset red some whole =
    let x = green_start cycle frame offset red in
    let near = nearest_is x in
    let seconds = cycle / second_ticks in
    let rounds = nearest_second x / seconds in
    let split = mod-add-div' (nearest_second x) seconds in
    let around : 0 < 2 * cycle = omega arith in
    let centre = man_turns (2 * cycle) offset frame around in
    let end = mod-add-div' (framed cycle frame offset + red) (2 * cycle) in
    let scaled = ap (λ (z : ℕ). rounds * z) (whole-seconds cycle whole) in
    record {
      η = x + 10 - second_halves * nearest_second x;
      within = omega (arith, near.most, near.least);
      turns =
          record {
            p = rounds + (framed cycle frame offset + red) / (2 * cycle) + centre.p;
            q = centre.q;
            eq = omega (arith, near.most, near.least, split, centre.eq, end, scaled);
          };
    }
