-- What a written sheet is worth (02, 2026-01), of whatever reply and bytes the contracts of `write` and `read` allow: the statements to sign.
use Rattle.std.specs.Prelude.{ℕ, ◌≤◌, ◌≡◌, List, length, take, Ok}
use Rattle.street.specs.Lists.{Lists}
use Rattle.street.specs.Checks.{first_fault, street_checks}
use Rattle.sheet.specs.Reading.{lists_of, sheet_beside, passing, Reading, Reads}
use Rattle.writer.specs.Writing.{Writing, WritesSheet, writing_numbers}

-- the most bytes that the sheet of a street has which passes the checks of 01
abbrev pub max_sheet : ℕ
max_sheet = 833

-- a street passes the checks that 01 lists for it
abbrev pub StreetPasses : Lists → Type 0
StreetPasses l = first_fault (street_checks l) ≡ Ok tt

-- the sheet that a call left in the lent list
abbrev pub sheet_in : List ℕ → Writing → List ℕ
sheet_in exit r = take (writing_numbers r).count exit

-- every street that passes is written into a list of 833 bytes or more, and no sheet is longer
abbrev pub WritesAll : Type 0
WritesAll =
    (l : Lists) (entry exit : List ℕ) (r : Writing) → StreetPasses l → max_sheet ≤ length entry → WritesSheet l entry exit r →
    ((writing_numbers r).code ≡ 0) × ((writing_numbers r).count ≤ max_sheet)

-- a street that was written, read from those bytes, is accepted with its own numbers
abbrev pub ReadsBack : Type 0
ReadsBack =
    (l : Lists) (entry exit : List ℕ) (r : Writing) (reading : Reading) → WritesSheet l entry exit r → (writing_numbers r).code ≡ 0 →
    Reads (sheet_in exit r) reading → reading ≡ passing l

-- a sheet that was read, written again from the numbers that it gave, has the same bytes; the numbers of a refused sheet are never written
abbrev pub WritesAgain : Type 0
WritesAgain =
    (bytes : List ℕ) (reading : Reading) (entry exit : List ℕ) (r : Writing) → Reads bytes reading →
    WritesSheet (lists_of (sheet_beside reading)) entry exit r → (writing_numbers r).code ≡ 0 → sheet_in exit r ≡ bytes
