-- Laws that the street's checks cite: what a failed range test says, and what a passed check tells of the numbers. Assumes nothing.
use Rattle.std.specs.Prelude.{Ok, Err}
use Prim.Native.Nat.{ℕ, ◌-◌, ◌≤◌, ◌<◌}
use mathlib.Core.Path.{◌≡◌, refl}
use mathlib.Core.Bool.{Bool, true, false, not}
use native.Mathlib.Omega.{arith}
use native.Mathlib.Decide.{dec_le}
use lib.Dec.{leb, ltb, eqb}
use borrow.Author.Tests.{lt-ltb, le-ltb, le-leb, lt-leb, leb-true, eqb-true}
use Rattle.circle.proofs.Numbers.{cond_left, cond_right}
use Rattle.road.specs.Limits.{min_signals, max_signals}
use Rattle.street.specs.Limits.{min_cycle, max_cycle}
use Rattle.street.specs.Checks.{within, unless_at, unless, or_next, count_check, room_check, cycle_check}
use Rattle.street.specs.declared.Code.{Code}
use Rattle.street.specs.declared.Code.TheVariants.{Sheet, Count, Room, Cycle, Red, Distance, Speed, Platoon, Width, Offset, Volume, Survey, Seconds}
use Rattle.street.specs.Codes.{code_number}
use Rattle.street.specs.Verdicts.{Verdict}

-- at or above the low end, a number is outside its range exactly when it is above the high end
pub outside-within : (low high x : ℕ) → low ≤ x → ltb high x ≡ not (within low high x)
outside-within low high x l = go (dec_le x high)
  where
    go : Dec (x ≤ high) → ltb high x ≡ not (within low high x)
    go (yes h) = simp (le-leb low x l, le-leb x high h, le-ltb high x h)
    go (no n) = let h : high < x = omega arith in simp (le-leb low x l, lt-leb x high h, lt-ltb high x h)

pub below_one : (i : ℕ) → i < 1 → i ≤ 0
below_one i h = omega arith

-- a check that passed tested true
pub passes_at : (place : ℕ) (t : Bool) (code : Code) → unless_at place t code ≡ (Ok tt) → t ≡ true
passes_at place true code e = refl
passes_at place false code e = let z : ◌≡◌ {A = ℕ} 0 1 = cc in absurd (omega arith)

pub passes : (t : Bool) (code : Code) → unless t code ≡ (Ok tt) → t ≡ true
passes = passes_at 0

pub record Within (least most x : ℕ) : Type 0 where
  pub low : least ≤ x
  pub high : x ≤ most

pub within_range : (low high x : ℕ) → within low high x ≡ true → Within low high x
within_range low high x e =
    record { low = leb-true _ _ (cond_left _ _ e); high = leb-true _ _ (cond_right (leb low x) (leb x high) e) }

-- what the count check tells: 1 to 32 signals, and each list's length
pub record Counted (n d o i : ℕ) : Type 0 where
  pub least : min_signals ≤ n
  pub most : n ≤ max_signals
  pub distances : d ≡ n
  pub outbound : o ≡ n - 1
  pub inbound : i ≡ n - 1

pub counted : (n d o i : ℕ) → count_check n d o i ≡ (Ok tt) → Counted n d o i
unfolding count_check
counted n d o i e =
    let all = passes _ Count e in
    let rest = cond_right (within min_signals max_signals n) _ all in
    let rest2 = cond_right (eqb d n) _ rest in
    let range = within_range min_signals max_signals n (cond_left _ _ all) in
    record {
      least = range.low;
      most = range.high;
      distances = eqb-true _ _ (cond_left _ _ rest);
      outbound = eqb-true _ _ (cond_left _ _ rest2);
      inbound = eqb-true _ _ (cond_right (eqb o (n - 1)) _ rest2);
    }

pub room_enough : (needed room : ℕ) → room_check needed room ≡ (Ok tt) → needed ≤ room
unfolding room_check
room_enough needed room e = leb-true needed room (passes (leb needed room) Room e)

pub cycle_range : (ticks : ℕ) → cycle_check ticks ≡ (Ok tt) → Within min_cycle max_cycle ticks
unfolding cycle_check
cycle_range ticks e = within_range min_cycle max_cycle ticks (passes _ Cycle e)

-- the last check decides where all before it passed
pub last_check : (v : Verdict) → or_next v (Ok tt) ≡ v
last_check (Ok tt) = refl
last_check (Err f) = refl

-- no code is 0
pub code_some : (c : Code) → 1 ≤ code_number c
code_some Sheet = omega arith
code_some Count = omega arith
code_some Room = omega arith
code_some Cycle = omega arith
code_some Red = omega arith
code_some Distance = omega arith
code_some Speed = omega arith
code_some Platoon = omega arith
code_some Width = omega arith
code_some Offset = omega arith
code_some Volume = omega arith
code_some Survey = omega arith
code_some Seconds = omega arith
