-- Lines as the code puts them together, an item and the byte after it at a time: the grouping of the parts is all that differs. The lines of two columns are that of the first
-- pair and those of the pairs after it. Assumes nothing.
use Prim.Native.Nat.{ℕ, ◌-◌}
use mathlib.Core.Logic.{◌⊎◌, ⊎_elim}
use mathlib.Core.Path.{◌≡◌, refl}
use mathlib.Core.List.{List, [], ◌∷◌, ◌++◌, append_assoc}
use lib.ListN.{length}
use Rattle.street.specs.Lists.{Lists, signals}
use Rattle.decimal.specs.Decimal.{decimal}
use Rattle.sheet.specs.Form.{number_line, pair_lines, text}
use Rattle.writer.specs.Steps.{section_text}

-- a pair's two items, each with the byte that ends it
abbrev pub left_item : ℕ → List ℕ
left_item x = decimal x ++ 32 ∷ []

abbrev pub right_item : ℕ → List ℕ
right_item y = decimal y ++ 10 ∷ []

-- a pair's line by these two, above the lines of the pairs after it
pub first_line : {xs ys xs' ys' : List ℕ} {x y : ℕ} → xs ≡ x ∷ xs' → ys ≡ y ∷ ys' → pair_lines xs ys ≡ (left_item x ++ right_item y) ++ pair_lines xs' ys'
unfolding pair_lines
first_line e f = rw (e, f) (simp append_assoc)

-- no line is left where either column ends
pub no_line : (xs ys : List ℕ) → (length xs ≡ 0) ⊎ (length ys ≡ 0) → pair_lines xs ys ≡ []
unfolding pair_lines
no_line [] ys e = refl
no_line (x ∷ xs) [] e = refl
no_line (x ∷ xs) (y ∷ ys) e = ⊎_elim (λ h. cc) (λ h. cc) e

-- a text by its sections
pub text_sections :
    (l : Lists)
    → length l.distances ≡ signals l
    → length l.outbound ≡ signals l - 1
    → ((number_line 1 ++ number_line l.cycle) ++ section_text l.distances l.reds) ++ section_text l.outbound l.inbound ≡ text l
unfolding text
text_sections l d o = rw (d, o) (simp append_assoc)
