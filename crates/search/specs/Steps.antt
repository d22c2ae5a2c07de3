-- Steps: what the library's functions say to each other and to the proofs. No contract of a public call cites it.
-- The search keeps widths raised by the cycle H, so that none is negative: a raised number less H is the signed one.
use Rattle.std.specs.Prelude.{ℕ, ◌+◌, ◌-◌, ◌*◌, ◌≤◌, ◌<◌, max, ◌≡◌, cond, List, [], ◌∷◌, ℤ, pos, ◌-ℤ◌, ltb, get_or}
use Rattle.circle.specs.Man.{man}
use Rattle.circle.specs.Over.{least_below}
use Rattle.circle.specs.Method.{Timed, halves, B, reference}
use Rattle.street.specs.Steps.{timed_with, Sound}
use Rattle.search.specs.declared.Candidate.{Candidate}

-- a raised number as the signed number that it stands for
abbrev pub signed_of : Timed → ℕ → ℤ
signed_of s x = pos x -ℤ pos (halves s)

-- a signal's anchor: its red less its two sums, reduced to the cycle once
abbrev pub anchor : Timed → ℕ → ℕ
anchor s k = man (halves s) (pos (s.red k) -ℤ pos (s.outbound k + s.inbound k))

-- every signal's anchor
pub record Reduced (s : Timed) (x : List ℕ) : Type 0 where
  pub each : (k : ℕ) → k < s.signals → get_or x k 0 ≡ anchor s k

-- what a limit leaves, raised: all but its red and what is gone of the cycle before it, and the whole cycle where it rests (02, 2026-05)
abbrev pub leaves_of : ℕ → ℕ → ℕ → ℕ
leaves_of cycle red gone = cond (ltb 0 red) (4 * cycle - gone - 2 * red) (4 * cycle)

-- a pair's two raised widths from two anchors and the limit's red
abbrev pub pair_of : ℕ → ℕ → ℕ → ℕ → List ℕ
pair_of cycle from to red =
    leaves_of cycle red (man (2 * cycle) (pos from -ℤ pos to))
    ∷ leaves_of cycle red (man (2 * cycle) (pos from -ℤ pos to -ℤ pos cycle))
    ∷ []

-- reds shorter than the cycle, and anchors on it
pub record Turning (cycle n : ℕ) (reds x : List ℕ) : Type 0 where
  pub goes : (k : ℕ) → k < n → get_or reds k 0 < cycle
  pub on : (k : ℕ) → k < n → get_or x k 0 < 2 * cycle

-- the row of the candidate i, from the reds and the anchors: a pair for each limit
pub record PairRow (cycle n : ℕ) (reds x : List ℕ) (i : ℕ) (row : List (List ℕ)) : Type 0 where
  pub each : (j : ℕ) → j < n → get_or row j [] ≡ pair_of cycle (get_or x i 0) (get_or x j 0) (get_or reds j 0)

-- the larger of a row's pair at a limit
abbrev pub wider : List (List ℕ) → ℕ → ℕ
wider row j = max (get_or (get_or row j []) 0 0) (get_or (get_or row j []) 1 0)

-- how a candidate ranks by its red and its row: by the least of the larger widths, which is b(i) raised, and last where it rests (02, 2026-05)
abbrev pub rank_of : ℕ → List (List ℕ) → ℕ → ℤ
rank_of n row red = cond (ltb 0 red) (least_below n (λ j. pos (wider row j))) (pos 0)

-- B raised, from the greatest rank: where that is 0 every signal rests, and B is the cycle (02, 2026-05)
abbrev pub settled_of : ℕ → ℕ → ℕ
settled_of cycle most = cond (ltb 0 most) most (4 * cycle)

-- what the search answers: the reference, and B raised
pub record Searched (s : Timed) (r : Candidate) : Type 0 where
  pub found : r.signal ≡ reference s
  pub width : signed_of s r.raised ≡ B s
  pub small : r.raised ≤ 4 * s.cycle

-- the same of every sound street with this cycle, these reds and these anchors: the search sees no more of a street
pub record Finds (cycle n : ℕ) (reds x : List ℕ) (r : Candidate) : Type 0 where
  pub each : (outbound inbound : ℕ → ℕ) → Sound (timed_with cycle n reds outbound inbound) → Reduced (timed_with cycle n reds outbound inbound) x → Searched (timed_with cycle n reds outbound inbound) r
