-- Steps: what the library's functions say to each other and to the proofs, here of the parts of a sheet that are written one after the other. No contract of a public call cites it.
use Rattle.std.specs.Prelude.{ℕ, List, ◌++◌, length}
use Rattle.sheet.specs.Form.{number_line, pair_lines}

-- a section of two columns: its count on a line, and a line for each pair
abbrev pub section_text : List ℕ → List ℕ → List ℕ
section_text left right = number_line (length left) ++ pair_lines left right
