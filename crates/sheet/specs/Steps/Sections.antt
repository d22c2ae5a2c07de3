-- How the sections of a sheet are read, each after its count on a line (01, 'The street sheet').
use Rattle.std.specs.Prelude.{ℕ, zero, suc, ◌≤◌, ◌≡◌, cond, List, length, [], ◌∷◌, eqb, Option, Some, None, Result, Ok, Err, option_map, option_and_then, ok_or}
use Rattle.street.specs.Checks.{within}
use Rattle.street.specs.declared.Code.{Code}
use Rattle.street.specs.declared.Code.TheVariants.{Sheet, Count}
use Rattle.decimal.specs.Lines.{space, line_end}
use Rattle.sheet.specs.Reading.{in_array}
use Rattle.sheet.specs.Steps.Numbers.{number}

-- what reading some lines comes to: their two columns and the bytes behind them
abbrev pub Lines : Type 0
Lines = List ℕ × List ℕ × List ℕ

-- a line above the lines that follow it
abbrev pub above : ℕ → ℕ → Lines → Lines
above x y l = (x ∷ l.0, y ∷ l.1, l.2)

-- some lines as arrays hold them: the two columns filled up with 0
abbrev pub in_arrays : Lines → Lines
in_arrays l = (in_array l.0, in_array l.1, l.2)

-- a line of two numbers with one space between them: both, and the bytes behind the line
unfoldable pub pair : List ℕ → Option (ℕ × ℕ × List ℕ)
pair bytes = option_and_then (λ t. option_map (λ u. (t.0, u.0, u.1)) (number line_end t.1)) (number space bytes)

-- a count of such lines, column by column
unfoldable pub pairs : ℕ → List ℕ → Option Lines
pairs zero bytes = Some ([], [], bytes)
pairs (suc n) bytes = option_and_then (λ t. option_map (above t.0 t.1) (pairs n t.2)) (pair bytes)

-- reading goes on with what was read, or stops at its fault
abbrev pub goes_on : {A B : Type 0} → (A → Result B Code) → Result A Code → Result B Code
goes_on next (Ok x) = next x
goes_on next (Err code) = Err code

-- what was read, made into something else
abbrev pub result_map : {A B : Type 0} → (A → B) → Result A Code → Result B Code
result_map f = goes_on (λ x. Ok (f x))

-- a section's count, which is judged as soon as its whole line is read
unfoldable pub judged_count : ℕ → ℕ → List ℕ → Result (ℕ × List ℕ) Code
judged_count least most bytes = goes_on (λ t. cond (within least most t.0) (Ok t) (Err Count)) (ok_or (number line_end bytes) Sheet)

-- a section of lines
unfoldable pub section : ℕ → ℕ → List ℕ → Result Lines Code
section least most bytes = goes_on (λ t. ok_or (pairs t.0 t.1) Sheet) (judged_count least most bytes)

-- a section that was read, its count within its bounds, as two arrays hold its columns; and the bytes behind it
pub record InArrays (read : Result Lines Code) (least most count : ℕ) (left right rest : List ℕ) : Type 0 where
  pub lefts : List ℕ
  pub rights : List ℕ
  pub is : read ≡ Ok (lefts, rights, rest)
  pub low : least ≤ count
  pub high : count ≤ most
  pub counted : length rights ≡ count
  pub in_left : left ≡ in_array lefts
  pub in_right : right ≡ in_array rights

-- the first section: the count 1 and then the cycle; another count breaks the form
unfoldable pub cycle_section : List ℕ → Option (ℕ × List ℕ)
cycle_section bytes = option_and_then (λ t. cond (eqb t.0 1) (number line_end t.1) None) (number line_end bytes)
