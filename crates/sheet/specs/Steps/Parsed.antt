-- What reading a whole sheet comes to, for any bytes at all (01, 'The street sheet' and 'Codes, in order of checking').
use Rattle.std.specs.Prelude.{ℕ, ◌-◌, cond, List, [], ◌∷◌, length, leb, Result, Ok, Err, ok_or}
use Rattle.road.specs.Limits.{min_signals, max_signals}
use Rattle.street.specs.Lists.{Lists, typed}
use Rattle.street.specs.declared.Code.{Code}
use Rattle.street.specs.declared.Code.TheVariants.{Sheet}
use Rattle.sheet.specs.Form.{max_bytes}
use Rattle.sheet.specs.Reading.{Reading, passing, refusing}
use Rattle.sheet.specs.Steps.Sections.{goes_on, section, cycle_section}

-- nothing follows the last line
abbrev pub at_end : Lists → List ℕ → Result Lists Code
at_end l [] = Ok l
at_end l (b ∷ bytes) = Err Sheet

-- the links, one fewer than the signals: the speeds of each, outbound and inbound, and then the end
unfoldable pub after_signals : ℕ → List ℕ → List ℕ → List ℕ → Result Lists Code
after_signals cycle distances reds bytes =
    goes_on (λ (outbound, inbound, end). at_end (typed cycle reds distances outbound inbound) end)
    (section (length reds - 1) (length reds - 1) bytes)

-- the signals, 1 to 32: the distance and the red of each, and then the links
unfoldable pub after_cycle : ℕ → List ℕ → Result Lists Code
after_cycle cycle bytes =
    goes_on (λ (distances, reds, rest). after_signals cycle distances reds rest) (section min_signals max_signals bytes)

-- a sheet's bytes, read from the first to the last: the first fault decides, and too many bytes are refused before any is read
unfoldable pub parsed : List ℕ → Result Lists Code
parsed bytes =
    cond (leb (length bytes) max_bytes)
    (goes_on (λ (cycle, rest). after_cycle cycle rest) (ok_or (cycle_section bytes) Sheet))
    (Err Sheet)

-- the reading of what the bytes came to
abbrev pub to_reading : Result Lists Code → Reading
to_reading (Ok l) = passing l
to_reading (Err c) = refusing c

-- what the reader answers
abbrev pub reading_of : List ℕ → Reading
reading_of bytes = to_reading (parsed bytes)
