-- Steps: what the functions of this crate and of `cabinets` say to each other and to the proofs. No contract of a public call cites it.
use Rattle.std.specs.Prelude.{ℕ, ◌*◌, ◌≤◌, ◌<◌, List, length, get_or}

-- a list that starts with an offset for each signal, and the signals' reds
pub record Offsets (cycle : ℕ) (reds list : List ℕ) : Type 0 where
  pub long : length reds ≤ length list
  pub offset : (j : ℕ) → j < length reds → get_or list j 0 < 2 * cycle
  pub red : (j : ℕ) → j < length reds → get_or reds j 0 < cycle
