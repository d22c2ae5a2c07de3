-- The published method for equal bands (01, 'Units and the street' and 'The equal plan'), as amended for signals that rest in green (02, 2026-05). Signals are indices from 0 here,
-- so signal 1 is index 0.
-- Reds, times and the cycle C are in ticks; u, widths and offsets are in halves, of which a cycle has H = 2C.
use Rattle.std.specs.Prelude.{Bool, cond, ℕ, ◌-◌, ◌*◌, ℤ, pos, ◌+ℤ◌, ◌-ℤ◌, ltb}
use Rattle.circle.specs.Signed.{leℤ, eqℤ, maxℤ, or_zero}
use Rattle.circle.specs.Over.{◌and◌, first_below, least_where, greatest_where, index_of}
use Rattle.circle.specs.Man.{man}

-- what the method is told of a street: the cycle, how many signals, each one's red, and for each signal the outbound time from signal 1 to it and the
-- inbound time from it to signal 1
pub record Timed : Type 0 where
  pub cycle : ℕ
  pub signals : ℕ
  pub red : ℕ → ℕ
  pub outbound : ℕ → ℕ
  pub inbound : ℕ → ℕ

-- H, the cycle in halves
abbrev pub halves : Timed → ℕ
halves s = 2 * s.cycle

-- t(i,j): the outbound time from i to j, negative when j is before i
abbrev pub t : Timed → ℕ → ℕ → ℤ
t s i j = pos (s.outbound j) -ℤ pos (s.outbound i)

-- t'(i,j): the inbound time, of the opposite sign, so negative when j is after i
abbrev pub t' : Timed → ℕ → ℕ → ℤ
t' s i j = pos (s.inbound i) -ℤ pos (s.inbound j)

-- u(i,j,e), for a phase e of 0 or C: in 1 to H, and H where the trajectory touches
unfoldable pub u : Timed → ℕ → ℕ → ℕ → ℕ
u s i j e = halves s - man (halves s) (pos (s.red i) -ℤ pos (s.red j) +ℤ t s i j -ℤ t' s i j -ℤ pos e)

-- the width of the ordered pair i, j under the phase e; it can be negative
unfoldable pub pair_width : Timed → ℕ → ℕ → ℕ → ℤ
pair_width s i j e = pos (u s i j e) -ℤ pos (2 * s.red j)

-- whether signal j has a red; one whose red has no length rests in green (02, 2026-05)
abbrev pub has_red : Timed → ℕ → Bool
has_red s j = ltb 0 (s.red j)

-- b(i): the least, over the signals j that have a red, i included, of the larger of the pair's two widths; a resting signal is no limit (02, 2026-05)
unfoldable pub b : Timed → ℕ → ℤ
b s i = least_where (pos (halves s)) s.signals (has_red s) (λ j. maxℤ (pair_width s i j 0) (pair_width s i j s.cycle))

-- B: the greatest b(i) over the signals i that have a red, signed; H where no signal has one (02, 2026-05)
unfoldable pub B : Timed → ℤ
B s = greatest_where (pos (halves s)) s.signals (has_red s) (b s)

-- the reference c: the first i that has a red and b(i) = B; signal 1 where no signal has a red (02, 2026-05)
unfoldable pub reference : Timed → ℕ
reference s = index_of (first_below s.signals (λ i. has_red s i and eqℤ (b s i) (B s)))

-- the phase of signal j against a reference c: the better one, 0 on a tie, and 0 where j rests (02, 2026-05)
unfoldable pub phase : Timed → ℕ → ℕ → ℕ
phase s c j = cond (has_red s j) (cond (leℤ (pair_width s c j s.cycle) (pair_width s c j 0)) 0 s.cycle) 0

-- signal j's offset in the equal plan with reference c
unfoldable pub offset : Timed → ℕ → ℕ → ℕ
offset s c j = man (halves s) (t s c j +ℤ t' s c j +ℤ pos (phase s c j))

-- the width that both directions report: B, or 0 where B is negative
unfoldable pub equal_width : Timed → ℕ
equal_width s = or_zero (B s)

-- the instant, in 0 to H - 1, at which the red of signal j with offset f ends: where a named outbound band starts at c
unfoldable pub red_end : Timed → ℕ → ℕ → ℕ
red_end s j f = man (halves s) (pos f +ℤ pos (s.red j))

-- the instant at which that red starts: where a named inbound band ends at c
unfoldable pub red_start : Timed → ℕ → ℕ → ℕ
red_start s j f = man (halves s) (pos f -ℤ pos (s.red j))

-- the same street counted in a unit of which N make one of these: everything is N times as long
abbrev pub in_units : ℕ → Timed → Timed
in_units N s =
    record {
      cycle = N * s.cycle;
      signals = s.signals;
      red = λ j. N * s.red j;
      outbound = λ j. N * s.outbound j;
      inbound = λ j. N * s.inbound j;
    }
