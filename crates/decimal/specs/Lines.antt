-- Lines, on the sheet and in the printed plan (01, 'The street sheet' and 'The printed plan').
use Rattle.std.specs.Prelude.{ℕ, List, [], ◌∷◌, ◌++◌}

-- the byte between two items of a line
abbrev pub space : ℕ
space = 32

-- the byte that ends a line
abbrev pub line_end : ℕ
line_end = 10

-- items with one space between each two
abbrev pub spaced : List (List ℕ) → List ℕ
spaced [] = []
spaced (x ∷ []) = x
spaced (x ∷ (y ∷ items)) = x ++ space ∷ spaced (y ∷ items)

-- a line: its items, spaced, and the line end
abbrev pub line : List (List ℕ) → List ℕ
line items = spaced items ++ line_end ∷ []
