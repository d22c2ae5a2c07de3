-- Reflection: with half-integer offsets the two directions have the same stretches. Where twice each red's start and its length make up the sum of the two lags and one
-- constant, round the cycle, the time since a red ended one way is the time left before it the other way: k departures from x on become k departures that end where the
-- first ones started, seen in a mirror. The law is over any two lists of lags, so it is its own way back; offsets whose centres are the half sums of the two times, with
-- any pattern of phases, are the instance. Assumes nothing.
use Prim.Native.Nat.{ℕ, ◌+◌, ◌-◌, ◌*◌, ◌<◌}
use mathlib.Core.Path.{◌≡◌, refl, ap, ap₂, ◌∙◌}
use mathlib.Core.Bool.{Bool, true, false, cond}
use mathlib.Core.Logic.{◌⊎◌, inl, inr, ⊎_elim}
use native.Mathlib.Omega.{arith}
use lib.IntN.{pos, sub_ℕ, ◌+ℤ◌, ◌-ℤ◌}
use Rattle.circle.specs.Signed.{leℤ}
use Rattle.circle.specs.Man.{man}
use Rattle.circle.specs.Method.{Timed, halves, t, t', pair_width, has_red, phase, offset}
use Rattle.circle.specs.Bands.{Way, outbound_way, inbound_way}
use Rattle.circle.proofs.Numbers.Signed.{sub_eq, pos_sub, pos_minus, add_sub}
use Rattle.circle.proofs.Numbers.Man.{Turns, man_lt, man_back, man_turns}
use Rattle.circle.proofs.Stretches.Arcs.{since, Passes}
use Rattle.circle.proofs.Stretches.Since.{along, Rising, since_turns, passes_at, start_turns}

-- two lists of lags through the reds of one way that mirror each other about the constant a
pub record Mirror (w : Way) (d d' : ℕ → ℕ) (a : ℕ) : Type 0 where
  pub each : (j : ℕ) → j < w.signals → 0 < w.length j → Turns w.around (2 * w.start j + w.length j) (d j + d' j + a)

pub mirror_back : (w : Way) (d d' : ℕ → ℕ) (a : ℕ) → Mirror w d d' a → Mirror w d' d a
mirror_back w d d' a m =
    record { each = λ j l r. let c = m.each j l r in record { p = c.p; q = c.q; eq = omega (arith, c.eq) } }

-- the departure at which the mirrored stretch starts
abbrev pub mirrored : Way → ℕ → ℕ → ℕ → ℕ
mirrored w a x k = man w.around (pos a -ℤ pos (x + k))

-- k departures that pass under the one list of lags, from x on, pass under the other from their mirrored start on
pub reflect : (w : Way) (d d' : ℕ → ℕ) (a x k : ℕ) → Mirror w d d' a → Passes (along w d) x k → Passes (along w d') (mirrored w a x k) k
reflect w d d' a x k m passes =
    record {
      most = passes.most;
      each =
          λ j l r.
          let room = passes.each j l r in
          let around : 0 < w.around = omega arith in
          let α = since_turns (along w d) x j around in
          let y = man_turns w.around a (x + k) around in
          let c = m.each j l r in
          passes_at (along w d') (mirrored w a x k) k j (w.around - (since (along w d) x j + k + w.length j)) r (omega arith)
          (record { p = c.p + α.q + y.q; q = 1 + c.q + α.p + y.p; eq = omega (arith, α.eq, y.eq, c.eq) });
    }

-- so each stretch under the one has its like under the other
pub reflection : (w : Way) (d d' : ℕ → ℕ) (a x k : ℕ) → 0 < w.around → Mirror w d d' a → Passes (along w d) x k → (y : ℕ) × (y < w.around) × Passes (along w d') y k
reflection w d d' a x k h m passes =
    (mirrored w a x k, man_lt w.around (pos a -ℤ pos (x + k)) h, reflect w d d' a x k m passes)

-- offsets that stand, round the cycle, at the sum of the two times from c and a phase of 0 or C, in any pattern of phases e
pub record Patterned (s : Timed) (c : ℕ) (e f : ℕ → ℕ) : Type 0 where
  pub either : (j : ℕ) → j < s.signals → (e j ≡ 0) ⊎ (e j ≡ s.cycle)
  pub centre : (j : ℕ) → j < s.signals → Turns (halves s) (f j + (s.outbound c + s.inbound j)) (s.outbound j + s.inbound c + e j)

-- twice a phase is a whole number of turns
pub twice : (e C : ℕ) → (e ≡ 0) ⊎ (e ≡ C) → (r : ℕ) × (2 * e ≡ r * (2 * C))
twice e C either = ⊎_elim (λ z. (0, omega arith)) (λ z. (1, omega arith)) either

-- such an offset's argument as one difference, and the offset from its remainder back
sum : (s : Timed) (c j e : ℕ) → t s c j +ℤ t' s c j +ℤ pos e ≡ sub_ℕ (s.outbound j + s.inbound c + e) (s.outbound c + s.inbound j)
sum s c j e =
    ap₂ (λ y z. y +ℤ z +ℤ pos e) (pos_minus (s.outbound j) (s.outbound c)) (pos_minus (s.inbound c) (s.inbound j))
    ∙ ap₂ ◌+ℤ◌ (add_sub (s.outbound j) (s.outbound c) (s.inbound c) (s.inbound j)) (pos_sub e)
    ∙ add_sub (s.outbound j + s.inbound c) (s.outbound c + s.inbound j) e 0
    ∙ sub_eq (s.outbound j + s.inbound c + e) (s.outbound c + s.inbound j + 0) (s.outbound j + s.inbound c + e) (s.outbound c + s.inbound j) (omega arith)

pub offset_turns : (s : Timed) (c j e f : ℕ) → 0 < halves s → f ≡ man (halves s) (t s c j +ℤ t' s c j +ℤ pos e) → Turns (halves s) (f + (s.outbound c + s.inbound j)) (s.outbound j + s.inbound c + e)
offset_turns s c j e f h centre =
    let o = man_back (halves s) (s.outbound j + s.inbound c + e) (s.outbound c + s.inbound j) h in
    record { p = o.p; q = o.q; eq = omega (arith, o.eq, centre, ap (man (halves s)) (sum s c j e)) }

-- the offsets of the equal plan are of this kind, with the chosen phases for a pattern
pub offset_patterned : (s : Timed) (c : ℕ) → 0 < halves s → Patterned s c (phase s c) (offset s c)
unfolding phase offset
offset_patterned s c h =
    record { either = λ j l. go (has_red s j) (leℤ (pair_width s c j s.cycle) (pair_width s c j 0)); centre = λ j l. offset_turns s c j (phase s c j) (offset s c j) h refl }
  where
    go : (red p : Bool) → (cond red (cond p 0 s.cycle) 0 ≡ 0) ⊎ (cond red (cond p 0 s.cycle) 0 ≡ s.cycle)
    go true true = inl refl
    go true false = inr refl
    go false p = inl refl

-- what the two directions mirror about
fixed : Timed → ℕ → ℕ
fixed s c = man (halves s) (pos (2 * s.inbound c) -ℤ pos (2 * s.outbound c + 2 * s.inbound (s.signals - 1)))

module _ (s : Timed) (turns : 0 < s.cycle) (rising : Rising s) (c : ℕ) (e f : ℕ → ℕ) (pattern : Patterned s c e f) where
  around : 0 < 2 * s.cycle
  around = omega arith

  ways_mirror : Mirror (outbound_way s f) (outbound_way s f).lag (inbound_way s f).lag (fixed s c)
  unfolding fixed
  ways_mirror =
      record {
        each =
            λ j l r.
            let σ = start_turns s j (f j) around in
            let o = pattern.centre j l in
            let a = man_turns (halves s) (2 * s.inbound c) (2 * s.outbound c + 2 * s.inbound (s.signals - 1)) around in
            let (g, two) = twice (e j) s.cycle (pattern.either j l) in
            record {
              p = 2 * σ.p + 2 * o.p + a.q;
              q = 2 * σ.q + 2 * o.q + a.p + g;
              eq = omega (arith, σ.eq, o.eq, a.eq, rising j l);
            };
      }

  -- each stretch one way has its like the other way
  pub likes : ((x k : ℕ) → Passes (outbound_way s f) x k → (y : ℕ) × (y < halves s) × Passes (inbound_way s f) y k) × ((y k : ℕ) → Passes (inbound_way s f) y k → (x : ℕ) × (x < halves s) × Passes (outbound_way s f) x k)
  likes =
      let out = (outbound_way s f).lag in
      let back = (inbound_way s f).lag in
      let a = fixed s c in (
        λ x k. reflection (outbound_way s f) out back a x k around ways_mirror,
        λ y k. reflection (outbound_way s f) back out a y k around (mirror_back (outbound_way s f) out back a ways_mirror),
      )
