-- What the reader answers: the numbers of a street, or a refusal (01, 'The street sheet' and 'Codes, in order of checking').
use Rattle.std.specs.Prelude.{ℕ, ◌-◌, ◌≡◌, List, [], ◌++◌, length, take, drop, replicate, Result, Ok, Err}
use Rattle.road.specs.Limits.{max_signals}
use Rattle.street.specs.Lists.{Lists, signals, typed}
use Rattle.street.specs.declared.Code.{Code}
use Rattle.street.specs.declared.Refusal.{Refusal}
use Rattle.sheet.specs.declared.Sheet.{Sheet}
use Rattle.sheet.specs.Form.{ByForm}

-- a column as an array holds it: 0 from its end on
abbrev pub in_array : List ℕ → List ℕ
in_array xs = xs ++ drop (length xs) (replicate max_signals 0)

-- a street's numbers as the reader hands them over, each column in an array of 32 entries
abbrev pub sheet_of : Lists → Sheet
sheet_of l =
    record {
      signals = signals l;
      cycle = l.cycle;
      reds = in_array l.reds;
      distances = in_array l.distances;
      outbound = in_array l.outbound;
      inbound = in_array l.inbound;
    }

-- the lists that a sheet's arrays hold: what a caller hands on of a sheet that was read
abbrev pub lists_of : Sheet → Lists
lists_of s =
    typed s.cycle (take s.signals s.reds) (take s.signals s.distances) (take (s.signals - 1) s.outbound) (take (s.signals - 1) s.inbound)

-- a sheet of which every number is 0
abbrev pub no_sheet : Sheet
no_sheet = sheet_of (typed 0 [] [] [] [])

-- a reading: a street's numbers, or a refusal, which has none
abbrev pub Reading : Type 0
Reading = Result Sheet Refusal

-- the sheet of a reading, with numbers that are all 0 beside a refusal
abbrev pub sheet_beside : Reading → Sheet
sheet_beside (Ok s) = s
sheet_beside (Err f) = no_sheet

-- a street that was read has its numbers
abbrev pub passing : Lists → Reading
passing l = Ok (sheet_of l)

-- a refusal by the reader has place 0
abbrev pub refusing : Code → Reading
refusing c = Err (record { code = c; place = 0 })

-- the contract of what reads: the numbers of the street whose text the bytes are, or else the refusal that they earn
abbrev pub Reads : List ℕ → Reading → Type 0
Reads bytes r = ByForm bytes (λ l. r ≡ passing l) (λ c. r ≡ refusing c)
