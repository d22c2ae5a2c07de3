-- `refusal_line` meets its contract: the word with the space after it, the code's number and the place are the line's three items.
use Prim.Native.Nat.{ℕ}
use native.Mathlib.Omega.{arith}
use mathlib.Core.Path.{◌≡◌, ap, ◌∙◌}
use mathlib.Core.List.{List, [], ◌∷◌, ◌++◌}
use Rattle.street.specs.declared.Refusal.{Refusal}
use Rattle.street.specs.Codes.{code_number}
use Rattle.decimal.specs.Decimal.{decimal}
use Rattle.decimal.proofs.Writing.{writes_twice, writes_as}
use Rattle.printed.specs.Text.{refused_word, refusal_line}
use Rattle.printed.proofs.Lines.{three_items}
use Rattle.printed.proofs.refusal_line.Goals as goal

-- the items as they are written
abbrev word : List ℕ
word = refused_word ++ 32 ∷ []

abbrev code_item : ℕ → List ℕ
code_item code = decimal code ++ 32 ∷ []

abbrev place_item : Refusal → List ℕ
place_item refusal = decimal refusal.place ++ 10 ∷ []

items : (refusal : Refusal) (code : ℕ) → code ≡ code_number refusal.code → word ++ code_item code ++ place_item refusal ≡ refusal_line refusal
items refusal code is =
    ap (λ (n : ℕ). word ++ code_item n ++ place_item refusal) is
    ∙ three_items refused_word (decimal (code_number refusal.code)) (decimal refusal.place)

pub returns : goal.returns
returns c =
    writes_as (items c.args.refusal c.into.result c.into.ensures)
    (writes_twice (omega arith) (writes_twice (omega arith) c.copy-word.ensures c.write_ended-coded.ensures) c.write_ended.ensures)
