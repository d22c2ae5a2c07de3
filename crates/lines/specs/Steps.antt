-- Steps: what the library's functions say to each other and to the proofs. No contract of a public call cites it.
use Rattle.std.specs.Prelude.{◌≡◌, ℕ, List, drop}
use Rattle.lines.specs.declared.Call.{Call}
use Rattle.lines.specs.declared.Call.TheVariants.{Measure}

-- the longest lent list of offsets that a line may name, and the most of its numbers that are kept
abbrev pub max_entries : ℕ
max_entries = 64

-- the longest lent list that a line may name, which is one of bytes
abbrev pub max_room : ℕ
max_room = 4096

-- how many numbers are kept for a call
abbrev pub entries_of : Call → ℕ
entries_of (Measure offsets) = offsets.count
entries_of _ = 0

-- what stands from some place of the bytes on, to their end
pub record IsRest (bytes rest : List ℕ) : Type 0 where
  pub place : ℕ
  pub stands : rest ≡ drop place bytes
