-- Named bands. A band is named by an instant at the reference: outbound by its start there, as the red ends, inbound by its end, as the red starts. Take any offsets that are the
-- equal plan's, each lowered by its own amount, by nothing too. Then the time since signal j's red ended is u(j)'s, more by j's lowering and less by the reference's. So both bands
-- pass where two inequalities hold at each signal with a red, and they are the same two each way once the two lowerings change places. Where a band is not open the same two inequalities
-- hold of a stretch of negative length. Assumes nothing.
use Prim.Native.Nat.{ℕ, ◌+◌, ◌-◌, ◌*◌, ◌≤◌, ◌<◌}
use mathlib.Core.Path.{◌≡◌}
use native.Mathlib.Omega.{arith}
use lib.IntN.{pos, ◌-ℤ◌}
use Rattle.circle.specs.Man.{man}
use Rattle.circle.specs.Method.{Timed, halves, reference, phase, offset, red_end, red_start}
use Rattle.circle.specs.Bands.{Way, outbound_way, inbound_way}
use Rattle.circle.specs.Moved.{chosen}
use Rattle.circle.proofs.Numbers.Man.{Turns, man_lt, man_turns}
use Rattle.circle.proofs.Formulas.Raised.{Fit, B⁺}
use Rattle.circle.proofs.Stretches.Arcs.{Passes, Spans}
use Rattle.circle.proofs.Stretches.Since.{Rising, since_le, start_turns, end_turns}
use Rattle.circle.proofs.Stretches.Reflection.{twice, offset_patterned}
use Rattle.circle.proofs.Formulas.Reference.{reference-first, offset_own}
use Rattle.circle.proofs.Formulas.Moving.{chosen_range, chosen_turns}

-- the instant at which a departure a later than x comes by the signal c
abbrev pub Meets : Way → ℕ → ℕ → ℕ → ℕ → Type 0
Meets w c instant a x = Turns w.around (x + a + w.lag c) instant

-- every instant has such a departure in the first turn
pub meets : (w : Way) (c instant a : ℕ) → 0 < w.around → (x : ℕ) × (x < w.around) × Meets w c instant a x
meets w c instant a h =
    let o = man_turns w.around instant (a + w.lag c) h in
    (man w.around (pos instant -ℤ pos (a + w.lag c)), man_lt w.around (pos instant -ℤ pos (a + w.lag c)) h, record { p = o.p; q = o.q; eq = omega (arith, o.eq) })

-- a band of v departures with a name: its start where a is 0, its end where a is v
pub record Named (w : Way) (c instant a v : ℕ) : Type 0 where
  pub passes : (x : ℕ) → Meets w c instant a x → 1 ≤ v → Passes w x v

-- the two bands that a plan names, v wide outbound and v' inbound. As stretches of signed length, less what they lack where the plan has none of that width, they make up 2B
pub record Bands (s : Timed) (f : ℕ → ℕ) (v v' : ℕ) : Type 0 where
  pub lack : ℕ
  pub lack' : ℕ
  pub x : ℕ
  pub y : ℕ
  pub out : Named (outbound_way s f) (reference s) (red_end s (reference s) (f (reference s))) 0 v
  pub back : Named (inbound_way s f) (reference s) (red_start s (reference s) (f (reference s))) v' v'
  pub out_spans : Spans (outbound_way s f) x v lack
  pub back_spans : Spans (inbound_way s f) y v' lack'
  pub all : v + v' + 2 * halves s ≡ 2 * B⁺ s + (lack + lack')

-- room for v departures at signal j, or for so many fewer, where of the two lowerings, its own and the reference's, d takes from it and e adds to it
pub record Room (s : Timed) (v lack j d e : ℕ) : Type 0 where
  pub before : v + 2 * s.red j + d ≤ chosen s j + e + lack
  pub after : chosen s j + e ≤ halves s + d

module _ (s : Timed) (fit : Fit s) (rising : Rising s) (f δ : ℕ → ℕ) (low : (j : ℕ) → Turns (halves s) (f j + δ j) (offset s (reference s) j)) where
  around : 0 < 2 * s.cycle
  around = omega (arith, fit.turns)

  -- the reference's offset is its lowering before 0
  own : Turns (halves s) (f (reference s) + δ (reference s)) 0
  own =
      let c = reference s in
      let o = low c in
      record { p = o.p; q = o.q; eq = omega (arith, o.eq, offset_own s fit c (reference-first s fit).below) }

  -- where signal j's red starts
  start : (j : ℕ) → j < s.signals → Turns (halves s) (red_start s j (f j) + s.red j + δ j + (s.outbound (reference s) + s.inbound j)) (s.outbound j + s.inbound (reference s) + phase s (reference s) j)
  start j l =
      let σ = start_turns s j (f j) around in
      let m = low j in
      let o = (offset_patterned s (reference s) around).centre j l in
      record { p = σ.p + m.p + o.p; q = σ.q + m.q + o.q; eq = omega (arith, σ.eq, m.eq, o.eq) }

  -- the departure that comes by the reference as its red ends
  out_spans_from :
      (x v lack : ℕ) → v ≤ halves s + lack → Meets (outbound_way s f) (reference s) (red_end s (reference s) (f (reference s))) 0 x →
      ((j : ℕ) → j < s.signals → 0 < s.red j → Room s v lack j (δ j) (δ (reference s))) → Spans (outbound_way s f) x v lack
  out_spans_from x v lack most from room =
      record {
        most = most;
        each =
            λ j l r.
            let c = reference s in
            let U = chosen_turns s fit j in
            let σ = start j l in
            let o = own in
            let E = end_turns s c (f c) around in
            let k = room j l (omega arith) in
            let g = halves s + δ j - (chosen s j + δ c) in
            let past = since_le (outbound_way s f) x j g around (record { p = U.p + σ.p + o.q + E.q + from.q; q = U.q + σ.q + o.p + E.p + from.p; eq = omega (arith, U.eq, σ.eq, o.eq, E.eq, from.eq, chosen_range s fit j, k.after) }) in
            omega (arith, k.before, k.after);
      }

  -- and the one that comes by v before its red starts, or later by what is lacking
  back_spans_to :
      (y v lack : ℕ) → v ≤ halves s + lack → Meets (inbound_way s f) (reference s) (red_start s (reference s) (f (reference s)) + lack) v y →
      ((j : ℕ) → j < s.signals → 0 < s.red j → Room s v lack j (δ (reference s)) (δ j)) → Spans (inbound_way s f) y v lack
  back_spans_to y v lack most to room =
      record {
        most = most;
        each =
            λ j l r.
            let c = reference s in
            let U = chosen_turns s fit j in
            let σ = start j l in
            let o = own in
            let E = start_turns s c (f c) around in
            let (t, two) = twice (phase s c j) s.cycle ((offset_patterned s c around).either j l) in
            let k = room j l (omega arith) in
            let g = chosen s j + δ j + lack - (v + 2 * s.red j + δ c) in
            let past = since_le (inbound_way s f) y j g around (record { p = U.q + σ.p + o.q + E.q + to.q; q = 1 + t + U.p + σ.q + o.p + E.p + to.p; eq = omega (arith, U.eq, σ.eq, o.eq, E.eq, to.eq, chosen_range s fit j, rising j l, rising c (reference-first s fit).below, k.before) }) in
            omega (arith, k.before, k.after);
      }

  -- the bands are there where each is at most the cycle and each signal with a red has room, and none is lacking of a band that is open
  module _
      (v v' lack lack' : ℕ) (most : v ≤ halves s) (most' : v' ≤ halves s) (none : 1 ≤ v → lack ≡ 0) (none' : 1 ≤ v' → lack' ≡ 0)
      (all : v + v' + 2 * halves s ≡ 2 * B⁺ s + (lack + lack'))
      (room : (j : ℕ) → j < s.signals → 0 < s.red j → Room s v lack j (δ j) (δ (reference s)))
      (room' : (j : ℕ) → j < s.signals → 0 < s.red j → Room s v' lack' j (δ (reference s)) (δ j))
    where
      first : Named (outbound_way s f) (reference s) (red_end s (reference s) (f (reference s))) 0 v
      first =
          record {
            passes =
                λ x from some.
                let full = none some in
                record { most = most; each = λ j l r. omega (arith, (out_spans_from x v lack (omega arith) from room).each j l r) };
          }

      last : Named (inbound_way s f) (reference s) (red_start s (reference s) (f (reference s))) v' v'
      last =
          record {
            passes =
                λ y to some.
                let full = none' some in
                let there : Meets (inbound_way s f) (reference s) (red_start s (reference s) (f (reference s)) + lack') v' y = record { p = to.p; q = to.q; eq = omega (arith, to.eq) } in
                record { most = most'; each = λ j l r. omega (arith, (back_spans_to y v' lack' (omega arith) there room').each j l r) };
          }

      pub bands : Bands s f v v'
      bands =
          let c = reference s in
          let (x, lx, from) = meets (outbound_way s f) c (red_end s c (f c)) 0 around in
          let (y, ly, to) = meets (inbound_way s f) c (red_start s c (f c) + lack') v' around in
          record {
            lack = lack;
            lack' = lack';
            x = x;
            y = y;
            out = first;
            back = last;
            out_spans = out_spans_from x v lack (omega arith) from room;
            back_spans = back_spans_to y v' lack' (omega arith) to room';
            all = all;
          }
