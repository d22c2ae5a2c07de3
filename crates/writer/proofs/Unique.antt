-- The contract of `write` determines its reply and what it leaves in the lent list: both equal what the contract names. Assumes nothing.
use mathlib.Core.List.{List}
use Prim.Native.Nat.{ℕ}
use Rattle.street.specs.Lists.{Lists}
use Rattle.street.proofs.Unique.{Same, same}
use Rattle.writer.specs.Writing.{Writing, WritesSheet}

pub write_unique : (l : Lists) (entry exit exit' : List ℕ) (r r' : Writing) → WritesSheet l entry exit r → WritesSheet l entry exit' r' → Same r r' exit exit'
write_unique l entry exit exit' r r' one other = same one.reply other.reply one.after other.after
