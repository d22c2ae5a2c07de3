-- Whole seconds (02, 2026-06): which cycles have a whole number of them, and the second nearest to the start of a signal's green, a tie going up, round the cycle.
use Rattle.std.specs.Prelude.{ℕ, ◌+◌, ◌*◌, ◌/◌, ◌%◌, ◌≤◌, pos, ◌+ℤ◌, ◌-ℤ◌, eqb}
use Rattle.circle.specs.Man.{man}
use Rattle.street.specs.Checks.{unless}
use Rattle.street.specs.declared.Code.TheVariants.{Seconds}
use Rattle.street.specs.Verdicts.{Verdict}

-- a second in ticks, and in halves
abbrev pub second_ticks : ℕ
second_ticks = 10

abbrev pub second_halves : ℕ
second_halves = 20

-- 13 SECONDS: a cabinet's cycle is a whole number of seconds
unfoldable pub seconds_check : ℕ → Verdict
seconds_check cycle = unless (eqb (cycle % second_ticks) 0) Seconds

-- an offset in a frame, which is one number taken from every offset, round the cycle
abbrev pub framed : ℕ → ℕ → ℕ → ℕ
framed cycle frame offset = man (2 * cycle) (pos offset -ℤ pos frame)

-- the start of a signal's green in that frame, in halves: offset plus red, round the cycle
abbrev pub green_start : ℕ → ℕ → ℕ → ℕ → ℕ
green_start cycle frame offset red = man (2 * cycle) (pos (framed cycle frame offset) +ℤ pos red)

-- s is the whole number of seconds nearest to x halves, a tie going up: its halves lie from 9 below x to 10 above
pub record NearestSecond (x s : ℕ) : Type 0 where
  pub most : second_halves * s ≤ x + 10
  pub least : x ≤ second_halves * s + 9

-- that number
abbrev pub nearest_second : ℕ → ℕ
nearest_second x = (x + 10) / second_halves

-- what a cabinet gets for a signal: the second nearest to the start of its green, round the cycle
unfoldable pub second_of : ℕ → ℕ → ℕ → ℕ → ℕ
second_of cycle frame offset red = nearest_second (green_start cycle frame offset red) % (cycle / second_ticks)
