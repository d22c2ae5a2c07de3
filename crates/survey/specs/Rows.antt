-- A survey's rows, and which of them are bad (02, 2026-04). Row `row j` is number j + 1; distances and speeds are counted in eighths of a metre, and of a metre a second.
use Rattle.std.specs.Prelude.{ℕ, zero, suc, ◌+◌, ◌*◌, Bool, true, false, ltb, eqb, Float, Option, Some, None}
use Rattle.circle.specs.Over.{◌and◌, ◌or◌, first_below}
use Rattle.road.specs.Limits.{min_signals, max_signals}
use Rattle.street.specs.Checks.{unless, within, fault_at}
use Rattle.street.specs.declared.Code.TheVariants.{Count, Survey}
use Rattle.street.specs.Verdicts.{Verdict}
use Rattle.eighths.specs.Readings.{max_reading, eighths_of}
use Rattle.survey.specs.declared.Position.{Position}
use Rattle.survey.specs.declared.Position.TheVariants.{Chainage, Gap}
use Rattle.survey.specs.declared.Row.{Row}

-- how many eighths a float is; a float outside the rules makes its row bad, and 0 stands for it
abbrev pub counted : Option ℕ → ℕ
counted (Some k) = k
counted None = 0

-- whether it is outside them
abbrev pub outside : Option ℕ → Bool
outside (Some k) = false
outside None = true

-- the float of a position, of either kind
abbrev pub metres : Position → Float
metres (Chainage x) = x
metres (Gap x) = x

-- the running distance at a position: a chainage counts from the origin, a gap from the row before
abbrev pub further : ℕ → Position → ℕ
further before (Chainage x) = counted (eighths_of x)
further before (Gap x) = before + counted (eighths_of x)

-- the running distance of each row; before the first row it is 0, so that a gap there counts from the origin
unfoldable pub running : (ℕ → Row) → ℕ → ℕ
running row zero = further 0 (row 0).position
running row (suc j) = further (running row j) (row (suc j)).position

-- a position is bad for a float outside the rules, or a running distance above 20,000 metres
abbrev pub bad_position : ℕ → Position → Bool
bad_position distance p = outside (eighths_of (metres p)) or ltb (8 * max_reading) distance

-- no link ends at the first row: a speed above zero is bad there
abbrev pub first_driven : ℕ → Row → Bool
first_driven j r = eqb j 0 and (ltb 0 (counted (eighths_of r.outbound)) or ltb 0 (counted (eighths_of r.inbound)))

-- a row is bad for its position at its running distance, for a speed outside the rules, or for a speed in the first row
abbrev pub bad_at : ℕ → ℕ → Row → Bool
bad_at j distance r =
    bad_position distance r.position
    or outside (eighths_of r.outbound)
    or outside (eighths_of r.inbound)
    or first_driven j r

abbrev pub bad_row : (ℕ → Row) → ℕ → Bool
bad_row row j = bad_at j (running row j) (row j)

-- 2 COUNT: 1 to 32 rows
unfoldable pub row_count_check : ℕ → Verdict
row_count_check n = unless (within min_signals max_signals n) Count

-- 12 SURVEY: the first bad row
unfoldable pub row_check : ℕ → (ℕ → Row) → Verdict
row_check n row = fault_at Survey (first_below n (bad_row row))
