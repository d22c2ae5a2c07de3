-- Steps: what the library's functions say to each other and to the proofs, here of writing into a lent list: some bytes take the place of those that stood there, and the next place is told.
-- No contract of a public call cites it.
use Rattle.std.specs.Prelude.{ℕ, ◌+◌, ◌≡◌, List, ◌++◌, length, take, drop}

-- a list after more bytes were written over it from a place on: those before and those past them stay
abbrev pub overwritten : ℕ → List ℕ → List ℕ → List ℕ
overwritten at more bytes = take at bytes ++ more ++ drop (at + length more) bytes

-- the contract of what writes: the list afterwards, and as the reply the place behind the last byte written
pub record Writes (at : ℕ) (more entry exit : List ℕ) (r : ℕ) : Type 0 where
  pub after : exit ≡ overwritten at more entry
  pub next : r ≡ at + length more
