-- Steps: what the library's functions say to each other and to the proofs. No contract of a public call cites it.
use Rattle.std.specs.Prelude.{ℕ, ◌+◌, ◌*◌, ◌≤◌, cond, ltb, Option, Some, None, option_and_then, option_map}
use Rattle.circle.specs.Over.{◌or◌}
use Rattle.street.specs.Verdicts.{answered}
use Rattle.sheet.specs.Reading.{Reading, sheet_of}
use Rattle.eighths.specs.Readings.{max_reading, eighths_of}
use Rattle.survey.specs.declared.Judged.{Judged}
use Rattle.survey.specs.declared.Position.{Position}
use Rattle.survey.specs.declared.Position.TheVariants.{Chainage, Gap}
use Rattle.survey.specs.declared.Row.{Row}
use Rattle.survey.specs.Rows.{row_check}
use Rattle.survey.specs.Typing.{typed_rows}

-- the largest running distance, in eighths
abbrev pub max_eighths : ℕ
max_eighths = 8 * max_reading

-- a gap's end, unless it is too far away
abbrev pub gap_end : ℕ → ℕ → Option ℕ
gap_end before k = cond (ltb max_eighths (before + k)) None (Some (before + k))

-- the running distance at a position, unless there is none
unfoldable pub placed_at : ℕ → Position → Option ℕ
placed_at before (Chainage x) = eighths_of x
placed_at before (Gap x) = option_and_then (gap_end before) (eighths_of x)

-- what three readings of a row make of it
abbrev pub together : Option ℕ → Option ℕ → Option ℕ → Option Judged
together distance outbound inbound =
    option_and_then
    (λ d. option_and_then (λ out. option_map (λ back. record { distance = d; outbound = out; inbound = back }) inbound) outbound)
    distance

-- a row after one with a known running distance, unless it is bad
unfoldable pub judged_as : ℕ → Row → Option Judged
judged_as before row = together (placed_at before row.position) (eighths_of row.outbound) (eighths_of row.inbound)

-- a row whose numbers of eighths are all within the largest running distance
pub record Small (row : Judged) : Type 0 where
  pub distance : row.distance ≤ max_eighths
  pub outbound : row.outbound ≤ max_eighths
  pub inbound : row.inbound ≤ max_eighths

-- a row where both speeds must be zero
abbrev pub standing : Option Judged → Option Judged
standing = option_and_then (λ m. cond (ltb 0 m.outbound or ltb 0 m.inbound) None (Some m))

-- the reading of as many rows as there may be: the refusal of the first bad one, or the sheet on which their street is typed
abbrev pub rows_reading : ℕ → ℕ → (ℕ → Row) → Reading
rows_reading cycle n row = answered (row_check n row) (sheet_of (typed_rows cycle n row))
