-- A verdict in numbers (01, 'Codes, in order of checking'): every call's reply has these two first.
use Rattle.std.specs.Prelude.{ℕ, Ok, Err}
use Rattle.street.specs.declared.Code.{Code}
use Rattle.street.specs.declared.Code.TheVariants.{Sheet, Count, Room, Cycle, Red, Distance, Speed, Platoon, Width, Offset, Volume, Survey, Seconds}
use Rattle.street.specs.Verdicts.{Verdict}

-- the number that documents 01 and 02 give each refusal
abbrev pub code_number : Code → ℕ
code_number Sheet = 1
code_number Count = 2
code_number Room = 3
code_number Cycle = 4
code_number Red = 5
code_number Distance = 6
code_number Speed = 7
code_number Platoon = 8
code_number Width = 9
code_number Offset = 10
code_number Volume = 11
code_number Survey = 12
code_number Seconds = 13

-- the code of a verdict: its refusal's number, 0 where every check passed
abbrev pub code_of : Verdict → ℕ
code_of (Ok tt) = 0
code_of (Err f) = code_number f.code

-- and its place: the refusal's, 0 where every check passed
abbrev pub place_of : Verdict → ℕ
place_of (Ok tt) = 0
place_of (Err f) = f.place
