-- The form of a sheet, stated apart from reading it (01, 'The street sheet'), and what bytes come to by it: a street, code 2 or code 1 (01, 'Codes, in order of checking').
use Rattle.std.specs.Prelude.{ℕ, ◌-◌, ◌≤◌, ◌<◌, ◌^◌, ◌⊎◌, ◌≡◌, List, [], ◌∷◌, ◌++◌, length}
use Rattle.road.specs.Limits.{min_signals, max_signals}
use Rattle.street.specs.Lists.{Lists, signals}
use Rattle.street.specs.declared.Code.{Code}
use Rattle.street.specs.declared.Code.TheVariants.{Sheet, Count}
use Rattle.decimal.specs.Decimal.{decimal}
use Rattle.decimal.specs.Lines.{line}

-- the most bytes that a sheet may have
abbrev pub max_bytes : ℕ
max_bytes = 2048

-- a line of one number
abbrev pub number_line : ℕ → List ℕ
number_line x = line (decimal x ∷ [])

-- a line of two numbers
abbrev pub pair_line : ℕ → ℕ → List ℕ
pair_line x y = line (decimal x ∷ decimal y ∷ [])

-- two columns, line by line
unfoldable pub pair_lines : List ℕ → List ℕ → List ℕ
pair_lines [] ys = []
pair_lines (x ∷ xs) [] = []
pair_lines (x ∷ xs) (y ∷ ys) = pair_line x y ++ pair_lines xs ys

-- a sheet's bytes: three sections, each after its count on a line
unfoldable pub text : Lists → List ℕ
text l =
    number_line 1
    ++ number_line l.cycle
    ++ number_line (signals l)
    ++ pair_lines l.distances l.reds
    ++ number_line (signals l - 1)
    ++ pair_lines l.outbound l.inbound

-- a number of at most 8 digits
abbrev pub EightDigits : ℕ → Type 0
EightDigits x = x < 10 ^ 8

-- numbers of at most 8 digits
abbrev pub AllEightDigits : List ℕ → Type 0
AllEightDigits [] = Unit
AllEightDigits (x ∷ xs) = EightDigits x × AllEightDigits xs

-- the streets that a sheet can hold: 1 to 32 signals, a distance for each, two speeds for each link, numbers of at most 8 digits, and bytes enough
pub record Writable (l : Lists) : Type 0 where
  pub some : min_signals ≤ signals l
  pub few : signals l ≤ max_signals
  pub distances : length l.distances ≡ signals l
  pub outbound : length l.outbound ≡ signals l - 1
  pub inbound : length l.inbound ≡ signals l - 1
  pub short_cycle : EightDigits l.cycle
  pub short_reds : AllEightDigits l.reds
  pub short_distances : AllEightDigits l.distances
  pub short_outbound : AllEightDigits l.outbound
  pub short_inbound : AllEightDigits l.inbound
  pub fits : length (text l) ≤ max_bytes

-- a wrong number of signals: a first section of the form, and then a whole line with a number that is not 1 to 32, whatever follows
pub record SignalCount (bytes : List ℕ) : Type 0 where
  pub cycle : ℕ
  pub count : ℕ
  pub rest : List ℕ
  pub short_cycle : EightDigits cycle
  pub short_count : EightDigits count
  pub wrong : (count < min_signals) ⊎ (max_signals < count)
  pub form : bytes ≡ number_line 1 ++ number_line cycle ++ number_line count ++ rest

-- a wrong number of links: two sections of the form, and then a whole line with a number that is not one fewer than the signals, whatever follows
pub record LinkCount (bytes : List ℕ) : Type 0 where
  pub cycle : ℕ
  pub distances : List ℕ
  pub reds : List ℕ
  pub count : ℕ
  pub rest : List ℕ
  pub some : min_signals ≤ length reds
  pub few : length reds ≤ max_signals
  pub even : length distances ≡ length reds
  pub short_cycle : EightDigits cycle
  pub short_distances : AllEightDigits distances
  pub short_reds : AllEightDigits reds
  pub short_count : EightDigits count
  pub wrong : count ≡ length reds - 1 → ⊥
  pub form : bytes ≡ number_line 1 ++ number_line cycle ++ number_line (length reds) ++ pair_lines distances reds ++ number_line count ++ rest

-- the sheets that get code 2: not too long, and one of the two counts is wrong
pub record CountFault (bytes : List ℕ) : Type 0 where
  pub fits : length bytes ≤ max_bytes
  pub miscount : SignalCount bytes ⊎ LinkCount bytes

-- what bytes come to: the street whose text they are; code 2 where a count is wrong; and where neither is so, code 1
pub record ByForm (bytes : List ℕ) (street : Lists → Type 0) (refusal : Code → Type 0) : Type 0 where
  pub of_text : (l : Lists) → Writable l → bytes ≡ text l → street l
  pub of_miscount : CountFault bytes → refusal Count
  pub of_others : ((l : Lists) → Writable l → bytes ≡ text l → ⊥) → (CountFault bytes → ⊥) → refusal Sheet
