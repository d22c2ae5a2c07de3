-- What the writer answers, and what it leaves in the lent byte list (02, 2026-01). The sheet of a street is its text, in the form that the reader has.
use Rattle.std.specs.Prelude.{ℕ, ◌≡◌, List, [], ◌∷◌, ◌++◌, length, Result, Ok, Err}
use Rattle.street.specs.Lists.{Lists}
use Rattle.street.specs.Codes.{code_of, place_of}
use Rattle.street.specs.Checks.{first_fault, room_check, street_checks, written}
use Rattle.street.specs.Verdicts.{Verdict, verdict_of, answered}
use Rattle.street.specs.declared.Refusal.{Refusal}
use Rattle.sheet.specs.Form.{text}

-- what the writer answers: how many bytes the sheet has that was written, or a refusal
abbrev pub Writing : Type 0
Writing = Result ℕ Refusal

-- the checks of a call that writes, in their order: those of 01 on the street, and last of all whether the lent list has room for the sheet
unfoldable pub write_checks : Lists → ℕ → Verdict
write_checks l room = first_fault (street_checks l ++ room_check (length (text l)) room ∷ [])

-- the answer over a lent list of some room: the first fault there is, or the sheet's length
abbrev pub writing_of : Lists → ℕ → Writing
writing_of l room = answered (write_checks l room) (length (text l))

-- the lent list after the call: the sheet in its first bytes and the rest as before; as before where the call refused
abbrev pub bytes_after : Lists → List ℕ → List ℕ
bytes_after l before = written (write_checks l (length before)) (text l) before

-- the contract of `write`: the reply, and the lent list as the call leaves it
pub record WritesSheet (l : Lists) (entry exit : List ℕ) (r : Writing) : Type 0 where
  pub reply : r ≡ writing_of l (length entry)
  pub after : exit ≡ bytes_after l entry

-- an answer in numbers: the code and place of a refusal, 0 and 0 where the sheet was written, and how many bytes it has
pub record WritingNumbers : Type 0 where
  pub code : ℕ
  pub place : ℕ
  pub count : ℕ

-- how many bytes an answer says were written: none by a refusal
abbrev pub count_of : Writing → ℕ
count_of (Ok count) = count
count_of (Err f) = 0

-- all numbers of an answer
abbrev pub writing_numbers : Writing → WritingNumbers
writing_numbers r = record { code = code_of (verdict_of r); place = place_of (verdict_of r); count = count_of r }
