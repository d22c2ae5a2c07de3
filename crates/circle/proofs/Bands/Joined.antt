-- A street and the same street without signals that rest have bands of one width, under offsets that are the same at the signals kept (02, 2026-05). In the one all of these are farther
-- by one amount of time from where departures are counted: outbound by what lies before the first one kept, inbound by what lies beyond the last. So k departures from x on pass there
-- exactly where they pass in the other from x and that amount on. Where the band starts is not claimed: the start moves by that amount round the cycle, and of several stretches of one
-- length another may then come first. Assumes nothing.
use Prim.Native.Nat.{ℕ, ◌+◌, ◌-◌, ◌*◌, ◌≤◌, ◌<◌}
use mathlib.Core.Path.{◌≡◌, ap}
use mathlib.Core.Logic.{⊎_elim}
use native.Mathlib.Omega.{arith}
use native.Mathlib.Nat.{eq-or-lt_of_le, le_antisymm}
use lib.IntN.{pos, ◌-ℤ◌}
use Rattle.circle.specs.Man.{man}
use Rattle.circle.specs.Method.{Timed, halves, red_start}
use Rattle.circle.specs.Bands.{Way, width, way_through, outbound_way, inbound_way}
use Rattle.circle.proofs.Numbers.Man.{man_turns}
use Rattle.circle.proofs.Formulas.Raised.{Fit}
use Rattle.circle.proofs.Formulas.Joined.{JoinedAt, fit_joined, kept_or_rests}
use Rattle.circle.proofs.Stretches.Arcs.{since, Passes, where_some}
use Rattle.circle.proofs.Stretches.Clear.{Proper, proper_way, since_turns, width_ge, band_starts}

-- a way that has a like for each stretch of another is as wide
as_wide : (v w : Way) → Proper v → Proper w → ((x n : ℕ) → Passes v x n → (y : ℕ) × Passes w y n) → width v ≤ width w
as_wide v w proper proper' like =
    where_some (width v) (width w) (λ some. let (y, p) = like _ (width v) (band_starts v proper some).passes in width_ge w proper' y (width v) p)

module _ {s z : Timed} {at : ℕ → ℕ} (joined : JoinedAt s z at) (fit : Fit s) (f h : ℕ → ℕ) (same : (k : ℕ) → k < z.signals → h k ≡ f (at k)) where
  -- under lags that are longer in s by d, in either direction
  module _ (lag near : ℕ → ℕ) (d : ℕ) (longer : (k : ℕ) → k < z.signals → lag (at k) ≡ near k + d) where
    since_joined : (x k : ℕ) → k < z.signals → since (way_through z h near) (x + d) k ≡ since (way_through s f lag) x (at k)
    unfolding red_start
    since_joined x k l =
        let instant : x + d + near k ≡ x + lag (at k) = omega (arith, longer k l) in
        cc (instant, joined.cycle, joined.red k l, same k l)

    fewer : (x n : ℕ) → Passes (way_through s f lag) x n → (y : ℕ) × Passes (way_through z h near) y n
    fewer x n p =
        (x + d, record { most = omega (arith, p.most, joined.cycle); each = λ k l r. omega (arith, since_joined x k l, joined.cycle, joined.red k l, p.each (at k) (joined.below k l) (omega (arith, joined.red k l))) })

    more : (y n : ℕ) → Passes (way_through z h near) y n → (x : ℕ) × Passes (way_through s f lag) x n
    more y n p =
        let x = man (halves z) (pos y -ℤ pos d) in
        let proper = proper_way z h (fit_joined joined fit) in
        let turns = man_turns (halves z) y d proper.turns in
        let each =
        kept_or_rests joined (λ j. 0 < 2 * s.red j → since (way_through s f lag) x j + n + 2 * s.red j ≤ halves s)
        (λ k l r. omega (arith, since_joined x k l, since_turns (way_through z h near) proper (x + d) y k turns, joined.cycle, joined.red k l, p.each k l (omega (arith, joined.red k l))))
        (λ j none r. absurd (none (omega arith))) in
        (x, record { most = omega (arith, p.most, joined.cycle); each = each })

    width_joined : width (way_through z h near) ≡ width (way_through s f lag)
    width_joined =
        let proper = proper_way s f fit in
        let proper' = proper_way z h (fit_joined joined fit) in
        le_antisymm (as_wide (way_through z h near) (way_through s f lag) proper' proper more) (as_wide (way_through s f lag) (way_through z h near) proper proper' fewer)

  pub outbound_joined : width (outbound_way z h) ≡ width (outbound_way s f)
  outbound_joined = width_joined (outbound_way s f).lag (outbound_way z h).lag (2 * joined.out) (λ k l. omega (arith, joined.outbound k l))

  -- and inbound where times grow along the street
  pub inbound_joined : ((i j : ℕ) → i ≤ j → j < s.signals → s.inbound i ≤ s.inbound j) → width (inbound_way z h) ≡ width (inbound_way s f)
  inbound_joined grows =
      let last : ℕ = z.signals - 1 in
      let here = joined.below last (omega (arith, joined.some)) in
      let beyond = grows (at last) (s.signals - 1) (omega arith) (omega arith) in
      width_joined (inbound_way s f).lag (inbound_way z h).lag (2 * (s.inbound (s.signals - 1) - s.inbound (at last)))
      (λ k l.
      let up : s.inbound (at k) ≤ s.inbound (at last) =
      ⊎_elim (λ e. omega (arith, ap (λ (i : ℕ). s.inbound (at i)) e)) (λ m. grows (at k) (at last) (omega (arith, joined.rising k last m (omega arith))) here) (eq-or-lt_of_le (omega arith)) in
      omega (arith, joined.inbound k l, joined.inbound last (omega arith)))
