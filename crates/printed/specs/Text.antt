-- The text of an answer, byte by byte (01, 'The printed plan').
use Rattle.std.specs.Prelude.{ℕ, ◌≡◌, List, [], ◌∷◌, ◌++◌, length, drop, replicate, Ok, Err}
use Rattle.street.specs.Codes.{code_number}
use Rattle.street.specs.declared.Refusal.{Refusal}
use Rattle.decimal.specs.Decimal.{decimal, signed_decimal}
use Rattle.decimal.specs.Lines.{line}
use Rattle.plans.specs.declared.Plan.{Plan}
use Rattle.plans.specs.Answers.{Answer}
use Rattle.printed.specs.declared.Printed.{Printed}

-- the most bytes that a text has room for
abbrev pub max_text : ℕ
max_text = 512

-- a plan's first line: c, B, outbound width, inbound width and m
abbrev pub plan_line : Plan → List ℕ
plan_line p =
    line
    (decimal p.reference
    ∷ signed_decimal p.b
    ∷ decimal p.outbound
    ∷ decimal p.inbound
    ∷ decimal p.rounded
    ∷ [])

-- the lines after it: one for each offset
unfoldable pub offset_lines : List ℕ → List ℕ
offset_lines [] = []
offset_lines (f ∷ offsets) = line (decimal f ∷ []) ++ offset_lines offsets

-- the letters of `refused`
abbrev pub refused_word : List ℕ
refused_word = 114 ∷ 101 ∷ 102 ∷ 117 ∷ 115 ∷ 101 ∷ 100 ∷ []

-- a refusal's one line: the word, the code's number and the place
abbrev pub refusal_line : Refusal → List ℕ
refusal_line f = line (refused_word ∷ decimal (code_number f.code) ∷ decimal f.place ∷ [])

-- the text of an answer whose offsets are those of the list
abbrev pub text_of : Answer → List ℕ → List ℕ
text_of (Ok p) offsets = plan_line p ++ offset_lines offsets
text_of (Err f) offsets = refusal_line f

-- a text as the printer hands it over: the bytes, zeros up to its end, and how many are text
abbrev pub printed_of : List ℕ → Printed
printed_of t = record { bytes = t ++ drop (length t) (replicate max_text 0); count = length t }

-- the contract of what prints: the reply is the text's
pub record Prints (t : List ℕ) (r : Printed) : Type 0 where
  pub reply : r ≡ printed_of t
