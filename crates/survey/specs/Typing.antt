-- The street that rows come to, as it would be typed by hand (02, 2026-04).
use Rattle.std.specs.Prelude.{ℕ, ◌+◌, ◌-◌, ◌*◌, cond, List, [], ◌∷◌, length, get_or, eqb, Float}
use Rattle.std.specs.Float.{nan}
use Rattle.circle.specs.Over.{◌and◌, list_below}
use Rattle.street.specs.Lists.{Lists, typed}
use Rattle.street.specs.Checks.{unless, first_fault}
use Rattle.street.specs.declared.Code.TheVariants.{Count}
use Rattle.street.specs.Verdicts.{Verdict, answered}
use Rattle.sheet.specs.Reading.{Reading, sheet_of}
use Rattle.eighths.specs.Readings.{eighths_of}
use Rattle.survey.specs.declared.Position.{Position}
use Rattle.survey.specs.declared.Position.TheVariants.{Chainage, Gap}
use Rattle.survey.specs.declared.Row.{Row}
use Rattle.survey.specs.Rows.{counted, running, row_count_check, row_check}

-- 125 mm or 125 mm/s for each eighth
abbrev pub thousandths : ℕ → ℕ
thousandths k = 125 * k

-- a street's numbers from n rows: each row's red, its running distance, and the speeds of the links, of which the first ends at row 2
abbrev pub typed_rows : ℕ → ℕ → (ℕ → Row) → Lists
typed_rows cycle n row =
    typed cycle
    (list_below n (λ j. (row j).red))
    (list_below n (λ j. thousandths (running row j)))
    (list_below (n - 1) (λ k. thousandths (counted (eighths_of (row (k + 1)).outbound))))
    (list_below (n - 1) (λ k. thousandths (counted (eighths_of (row (k + 1)).inbound))))

-- the checks of rows in their order: the count first, and then the rows
unfoldable pub survey_checks : ℕ → (ℕ → Row) → Verdict
survey_checks n row = first_fault (row_count_check n ∷ row_check n row ∷ [])

-- the reading of n rows: their refusal, or the sheet on which their street is typed
abbrev pub survey_reading : ℕ → ℕ → (ℕ → Row) → Reading
survey_reading cycle n row = answered (survey_checks n row) (sheet_of (typed_rows cycle n row))

-- the rows of a list; there is none past its end, and one that is bad stands for it
abbrev pub in_rows : List Row → ℕ → Row
in_rows rows j = get_or rows j (record { position = Chainage nan; outbound = nan; inbound = nan; red = 0 })

-- a position by its kind as C has it: 0 is a chainage and 1 a gap; with any other kind it is outside the rules, as a NaN is
abbrev pub position_of : ℕ → Float → Position
position_of kind x = cond (eqb kind 0) (Chainage x) (cond (eqb kind 1) (Gap x) (Chainage nan))

-- a row by its kind and numbers
abbrev pub row_of : ℕ → Float → Float → Float → ℕ → Row
row_of kind x outbound inbound red =
    record { position = position_of kind x; outbound = outbound; inbound = inbound; red = red }

-- the rows of five lists, as C hands them over
abbrev pub in_lists : List ℕ → List Float → List Float → List Float → List ℕ → ℕ → Row
in_lists kinds positions outbound inbound reds j =
    row_of (get_or kinds j 0) (get_or positions j nan) (get_or outbound j nan) (get_or inbound j nan) (get_or reds j 0)

-- 2 COUNT: each of the other four lists has as many entries as there are reds
unfoldable pub lengths_check : ℕ → ℕ → ℕ → ℕ → ℕ → Verdict
lengths_check n kinds positions outbound inbound =
    unless (eqb kinds n and eqb positions n and eqb outbound n and eqb inbound n) Count

-- the reading of five lists
abbrev pub lists_reading : ℕ → List ℕ → List Float → List Float → List Float → List ℕ → Reading
lists_reading cycle kinds positions outbound inbound reds =
    let row = in_lists kinds positions outbound inbound reds in
    let n = length reds in
    answered
    (first_fault
    (lengths_check n (length kinds) (length positions) (length outbound) (length inbound) ∷ survey_checks n row ∷ []))
    (sheet_of (typed_rows cycle n row))
