-- Surveys worked out: the numbers that rows come to, and which row is refused. Assumes nothing.
use Prim.Native.Nat.{ℕ}
use mathlib.Core.Path.{◌≡◌, refl, sym}
use mathlib.Core.List.{List, [], ◌∷◌, ◌++◌, map}
use lib.ListN.{length, replicate}
use lib.Ieee.{Float, nan, inf, binary64, of_bits}
use mathlib.Core.Bool.{false}
use Rattle.circle.specs.Over.{first_below, list_below}
use Rattle.street.specs.Lists.{typed}
use Rattle.street.specs.Codes.{code_of, place_of}
use Rattle.street.specs.Verdicts.{verdict_of}
use Rattle.sheet.specs.Reading.{passing, Reads}
use Rattle.sheet.specs.Reading.{Reading}
use Rattle.sheet.proofs.Examples.{sheet_A, text_a, writable_a}
use Rattle.eighths.specs.Readings.{eighths_of}
use Rattle.survey.specs.declared.Position.TheVariants.{Chainage, Gap}
use Rattle.survey.specs.declared.Row.{Row}
use Rattle.survey.specs.Rows.{running, row_count_check, row_check}
use Rattle.survey.proofs.TypingLaws.{typed_on_a_sheet}
use Rattle.survey.specs.Typing.{survey_checks, typed_rows, survey_reading, in_rows, lengths_check, lists_reading}

-- 0 and negative zero, an eighth, 0.1, 5.125, 10, 15, 30, 30.1, 50, 80, 20,000, an eighth less and an eighth more
abbrev none : Float
none = of_bits binary64 0x0000_0000_0000_0000

abbrev minus : Float
minus = of_bits binary64 0x8000_0000_0000_0000

abbrev eighth : Float
eighth = of_bits binary64 0x3fc0_0000_0000_0000

abbrev tenth : Float
tenth = of_bits binary64 0x3fb9_9999_9999_999a

abbrev five : Float
five = of_bits binary64 0x4014_8000_0000_0000

abbrev ten : Float
ten = of_bits binary64 0x4024_0000_0000_0000

abbrev fifteen : Float
fifteen = of_bits binary64 0x402e_0000_0000_0000

abbrev thirty : Float
thirty = of_bits binary64 0x403e_0000_0000_0000

abbrev thirty_one_tenth : Float
thirty_one_tenth = of_bits binary64 0x403e_1999_9999_999a

abbrev fifty : Float
fifty = of_bits binary64 0x4049_0000_0000_0000

abbrev eighty : Float
eighty = of_bits binary64 0x4054_0000_0000_0000

abbrev beyond : Float
beyond = of_bits binary64 0x40d3_8808_0000_0000

abbrev far : Float
far = of_bits binary64 0x40d3_8800_0000_0000

abbrev near : Float
near = of_bits binary64 0x40d3_87f8_0000_0000

-- a row at a chainage or a gap, with the two speeds of the link that ends there and a red
abbrev at : Float → Float → Float → ℕ → Row
at x out back red = record { position = Chainage x; outbound = out; inbound = back; red = red }

abbrev past : Float → Float → Float → ℕ → Row
past x out back red = record { position = Gap x; outbound = out; inbound = back; red = red }

-- street A as a survey: its numbers are those of its sheet, whichever zero the first speeds are
pub street_a : survey_reading 100 2 (in_rows (at none none minus 40 ∷ past thirty ten fifteen 50 ∷ [])) ≡ passing (typed 100 (40 ∷ 50 ∷ []) (0 ∷ 30000 ∷ []) (10000 ∷ []) (15000 ∷ []))
unfolding survey_checks row_count_check row_check running first_below list_below eighths_of of_bits
street_a = refl

-- so its sheet, read, is its survey, read
pub sheet_a : (r : Reading) → Reads sheet_A r → r ≡ survey_reading 100 2 (in_rows (at none none minus 40 ∷ past thirty ten fifteen 50 ∷ []))
unfolding survey_checks row_count_check row_check running first_below list_below eighths_of of_bits
sheet_a r reads =
    typed_on_a_sheet 100 2 (in_rows (at none none minus 40 ∷ past thirty ten fifteen 50 ∷ [])) sheet_A r refl writable_a (sym text_a) reads

-- and the same street from an origin that lies 50 metres before it
pub other_origin : survey_reading 100 2 (in_rows (past fifty minus minus 40 ∷ at eighty ten fifteen 50 ∷ [])) ≡ passing (typed 100 (40 ∷ 50 ∷ []) (50000 ∷ 80000 ∷ []) (10000 ∷ []) (15000 ∷ []))
unfolding survey_checks row_count_check row_check running first_below list_below eighths_of of_bits
other_origin = refl

-- a gap counts from the row before, whatever its kind, and in the first row from the origin; reds are as typed, and distances may fall: that is for the street's checks to judge
pub distances : (typed_rows 100 4 (in_rows (past ten none none 0 ∷ past five ten ten 1 ∷ at thirty ten ten 100 ∷ past minus none none 7 ∷ []))).distances ≡ 10000 ∷ 15125 ∷ 30000 ∷ 30000 ∷ []
unfolding running list_below eighths_of of_bits
distances = refl

pub reds_and_speeds : typed_rows 100 3 (in_rows (past ten none none 0 ∷ past five ten fifteen 1 ∷ at none five none 100 ∷ [])) ≡ typed 100 (0 ∷ 1 ∷ 100 ∷ []) (10000 ∷ 15125 ∷ 0 ∷ []) (10000 ∷ 5125 ∷ []) (15000 ∷ 0 ∷ [])
unfolding running list_below eighths_of of_bits
reds_and_speeds = refl

-- code and place of what is said of rows, by their own number
unfoldable pub said : List Row → List ℕ
unfolding survey_checks row_count_check row_check running first_below eighths_of of_bits
said rows = code_of (survey_checks (length rows) (in_rows rows)) ∷ place_of (survey_checks (length rows) (in_rows rows)) ∷ []

-- none and 33 rows are refused before any row is looked at; 32 are not
pub counts : map said ([] ∷ replicate 33 (at nan none none 1) ∷ replicate 32 (at none none none 1) ∷ []) ≡ (2 ∷ 0 ∷ []) ∷ (2 ∷ 0 ∷ []) ∷ (0 ∷ 0 ∷ []) ∷ []
unfolding said
counts = refl

-- a survey at fault in every row, mended row by row, and in the first one number by number
pub in_order :
    map said
    ((at tenth ten none 1 ∷ at none tenth none 1 ∷ at none none nan 1 ∷ [])
    ∷ (at none ten none 1 ∷ at none tenth none 1 ∷ at none none nan 1 ∷ [])
    ∷ (at none none eighth 1 ∷ at none tenth none 1 ∷ at none none nan 1 ∷ [])
    ∷ (at none none none 1 ∷ at none tenth none 1 ∷ at none none nan 1 ∷ [])
    ∷ (at none none none 1 ∷ at none none none 1 ∷ at none none nan 1 ∷ [])
    ∷ (at none none none 1 ∷ at none none none 1 ∷ at none none none 1 ∷ [])
    ∷ [])
    ≡ (12 ∷ 1 ∷ []) ∷ (12 ∷ 1 ∷ []) ∷ (12 ∷ 1 ∷ []) ∷ (12 ∷ 2 ∷ []) ∷ (12 ∷ 3 ∷ []) ∷ (0 ∷ 0 ∷ []) ∷ []
unfolding said
in_order = refl

-- 20,000 metres are reached by a chainage, and by gaps, and an eighth more is too far; a chainage starts anew; an infinity is outside the rules
pub far_away :
    map said
    ((at far none none 1 ∷ [])
    ∷ (at near none none 1 ∷ past eighth ten ten 1 ∷ [])
    ∷ (at far none none 1 ∷ past eighth ten ten 1 ∷ [])
    ∷ (past far none none 1 ∷ past eighth ten ten 1 ∷ at none ten ten 1 ∷ [])
    ∷ (at far none none 1 ∷ at far ten ten 1 ∷ [])
    ∷ (at none none none 1 ∷ past (inf false) ten ten 1 ∷ [])
    ∷ [])
    ≡ (0 ∷ 0 ∷ []) ∷ (0 ∷ 0 ∷ []) ∷ (12 ∷ 2 ∷ []) ∷ (12 ∷ 2 ∷ []) ∷ (0 ∷ 0 ∷ []) ∷ (12 ∷ 2 ∷ []) ∷ []
unfolding said
far_away = refl

-- the surveys of docs/EXAMPLES.md that code 12 refuses
pub on_the_page :
    map said
    ((at beyond none none 240 ∷ [])
    ∷ (at none ten fifteen 40 ∷ past thirty ten fifteen 50 ∷ [])
    ∷ (at none none none 40 ∷ past thirty_one_tenth ten fifteen 50 ∷ past nan ten fifteen 50 ∷ [])
    ∷ (at near none none 40 ∷ past eighth ten fifteen 50 ∷ past eighth ten fifteen 50 ∷ [])
    ∷ [])
    ≡ (12 ∷ 1 ∷ []) ∷ (12 ∷ 1 ∷ []) ∷ (12 ∷ 2 ∷ []) ∷ (12 ∷ 3 ∷ []) ∷ []
unfolding said
on_the_page = refl

-- street A in five lists, as C hands them over; a kind that is neither 0 nor 1 is a bad row, and lists of other lengths are a wrong count
pub in_lists_lem : lists_reading 100 (0 ∷ 1 ∷ []) (none ∷ thirty ∷ []) (none ∷ ten ∷ []) (minus ∷ fifteen ∷ []) (40 ∷ 50 ∷ []) ≡ passing (typed 100 (40 ∷ 50 ∷ []) (0 ∷ 30000 ∷ []) (10000 ∷ []) (15000 ∷ []))
unfolding lengths_check survey_checks row_count_check row_check running first_below list_below eighths_of of_bits
in_lists_lem = refl

unfoldable pub said_of : List ℕ → List Float → List ℕ
unfolding lengths_check survey_checks row_count_check row_check running first_below list_below eighths_of of_bits
said_of kinds positions =
    let r = lists_reading 100 kinds positions (none ∷ ten ∷ []) (none ∷ ten ∷ []) (40 ∷ 50 ∷ []) in
    code_of (verdict_of r) ∷ place_of (verdict_of r) ∷ []

pub kinds_and_lengths : said_of (0 ∷ 2 ∷ []) (none ∷ thirty ∷ []) ++ said_of (4294967295 ∷ 2 ∷ []) (none ∷ thirty ∷ []) ++ said_of (0 ∷ []) (none ∷ thirty ∷ []) ++ said_of (0 ∷ 1 ∷ []) (none ∷ thirty ∷ nan ∷ []) ≡ 12 ∷ 2 ∷ 12 ∷ 1 ∷ 2 ∷ 0 ∷ 2 ∷ 0 ∷ []
unfolding said_of
kinds_and_lengths = refl
