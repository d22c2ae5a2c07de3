-- Lines as the code puts them together, an item and the byte after it at a time: the grouping of the parts is all that differs. The lines of
-- the offsets from one on are its line and those of the offsets after it. Assumes nothing.
use Prim.Native.Nat.{ℕ, ◌+◌, ◌≤◌, ◌<◌}
use native.Mathlib.Numerals.{add-one}
use mathlib.Core.Path.{◌≡◌, refl}
use mathlib.Core.List.{List, [], ◌∷◌, ◌++◌, append_assoc}
use lib.ListN.{length, drop, get_or, drop_of_length-le, length-append}
use lib.Seq.{drop-cons}
use Rattle.decimal.specs.Decimal.{decimal}
use Rattle.decimal.specs.Lines.{line}
use Rattle.printed.specs.Text.{offset_lines}

-- an offset's line
abbrev pub one_line : ℕ → List ℕ
one_line x = decimal x ++ 10 ∷ []

module _ (l : List ℕ) (i : ℕ) where
  pub offset_line : i < length l → offset_lines (drop i l) ≡ one_line (get_or l i 0) ++ offset_lines (drop (i + 1) l)
  unfolding offset_lines
  offset_line h = rw (add-one, drop-cons l i 0 h) refl

  pub no_offset_line : length l ≤ i → offset_lines (drop i l) ≡ []
  unfolding offset_lines
  no_offset_line h = rw (drop_of_length-le l h) refl

-- a line of three items, and one of five
pub three_items : (w a b : List ℕ) → (w ++ 32 ∷ []) ++ (a ++ 32 ∷ []) ++ (b ++ 10 ∷ []) ≡ line (w ∷ a ∷ b ∷ [])
three_items w a b = simp append_assoc

pub five_items :
    (a b c d e : List ℕ)
    → (a ++ 32 ∷ []) ++ (b ++ 32 ∷ []) ++ (c ++ 32 ∷ []) ++ (d ++ 32 ∷ []) ++ (e ++ 10 ∷ []) ≡ line (a ∷ b ∷ c ∷ d ∷ e ∷ [])
five_items a b c d e = simp append_assoc

-- how long the five are
pub five_sizes : (a b c d e : List ℕ) → length (a ++ b ++ c ++ d ++ e) ≡ length a + length b + length c + length d + length e
five_sizes a b c d e = simp length-append
