-- Reds that start later by up to 10 halves or sooner by up to 9, and lags near the rounded ones, in one use of the law of perturbation: each red moved by 10 halves less some η of 0 to 19, each lag by its
-- place in the window, so that together the amounts lie in a window of 19 halves and r. What is left of a named band starts 10 halves and the reference's own place in the window after it. Assumes nothing.
use Rattle.std.specs.Prelude.{Ok}
use Prim.Native.Nat.{ℕ, zero, suc, ◌+◌, ◌-◌, ◌*◌, ◌≤◌, ◌<◌}
use mathlib.Core.Path.{◌≡◌, refl, ap, subst}
use mathlib.Core.Bool.{true}
use native.Mathlib.Omega.{arith}
use native.Mathlib.Decide.{dec_le}
use native.Mathlib.Nat.{mul-le-mul_left, mul-sub}
use Rattle.circle.specs.Over.{all_below}
use Rattle.circle.specs.Method.{in_units, red_start}
use Rattle.circle.specs.Bands.{Way, stretch, width, way_through}
use Rattle.circle.proofs.Numbers.{Turns, man_is, man_turns}
use Rattle.circle.proofs.Stretches.{Passes, Proper, near_passes, passes_stretch, proper_way, width_ge}
use Rattle.circle.proofs.Bands.{Named, meets, finer_passes, fit_scaled}
use Rattle.street.specs.Lists.{Lists, signals}
use Rattle.street.specs.Checks.{plan_checks}
use Rattle.street.specs.Streets.{timed}
use Rattle.promises.specs.Replies.{into_band}
use Rattle.promises.proofs.Streets.Passing.{fit}
use Rattle.promises.proofs.Streets.Directions.{way_in, Direction}
use Rattle.promises.proofs.Bands.Stretched.{turned}
use Rattle.cabinets.specs.Kept.{ClearBetween, StretchInside}

-- signal j's red under the offsets g starts 10 halves less η after its start under f
pub record Nudges (l : Lists) (f g : ℕ → ℕ) (j : ℕ) : Type 0 where
  pub η : ℕ
  pub within : η ≤ 19
  pub turns : Turns (2 * l.cycle) (red_start (timed l) j (g j) + η) (red_start (timed l) j (f j) + 10)

-- what is left of a named band of v halves that loses at most so many of them, r by the travel times
pub record Band (N : ℕ) (w : Way) (c instant a v r most : ℕ) : Type 0 where
  pub clear : (late early : ℕ) → r + 10 ≤ late → r + 9 ≤ early → ClearBetween N w c instant a v late early
  pub inside : StretchInside N w c instant a v (v - most)
  pub short : N * v ≤ width w + N * most

-- no departures are a stretch
nothing : (w : Way) (x N : ℕ) → stretch w x (N * 0) ≡ true
unfolding stretch all_below
nothing w x N = let none : N * 0 ≡ 0 = omega arith in ap (λ (k : ℕ). stretch w x k) none

module _
    (l : Lists) (room : ℕ) (passed : plan_checks l room ≡ (Ok tt)) (N r : ℕ) (fine : 0 < N) {coarse rounded near : ℕ → ℕ} (d : Direction l N r coarse rounded near)
    (f g : ℕ → ℕ) (nudges : (j : ℕ) → j < signals l → Nudges l f g j)
  where
    proper : (h : ℕ → ℕ) (lag : ℕ → ℕ) → Proper (way_in l N h lag)
    proper h lag = proper_way (in_units N (timed l)) h (fit_scaled N (timed l) fine (fit l room passed))

    -- of v halves that pass all but 19 and what the lags take pass through the cabinets, s after the window's own start
    shrunk :
        (s top x v : ℕ) → ((j : ℕ) → j ≤ signals l - 1 → d.window.δ j + s ≤ top) → top + N * 19 ≤ N * v → Passes (way_through (timed l) f coarse) x v →
        Passes (way_in l N (λ j. N * g j) near) (N * x + (d.window.moved + s + N * 10)) (N * v - (top + N * 19))
    shrunk s top x v small some p =
        let w = way_in l N (λ j. N * f j) rounded in
        let q = finer_passes N (way_through (timed l) f coarse) w (d.finer f) (proper (λ j. N * f j) rounded).turns x v p in
        near_passes w (way_in l N (λ j. N * g j) near) (d.window.moved + s + N * 10) (top + N * 19) (N * x) (N * v)
        (record {
          around = refl;
          signals = refl;
          each =
              λ j h red.
              let nudge = nudges j h in
              let here : j ≤ signals l - 1 = omega arith in
              record {
                δ = d.window.δ j + s + N * nudge.η;
                within = omega (arith, small j here, mul-le-mul_left N nudge.within);
                inside = 0;
                fits = omega arith;
                turns =
                    record {
                      p = nudge.turns.p;
                      q = nudge.turns.q;
                      eq = omega (arith, ap (λ (z : ℕ). N * z) nudge.turns.eq, (d.finer f).start j h, (d.finer g).start j h, d.window.each j here);
                    };
              };
        })
        some q

    -- a band that the plan names
    module _ (c instant a v : ℕ) (here : c < signals l) (named : Named (way_through (timed l) f coarse) c instant a v) where
      around : 0 < 2 * l.cycle
      around = omega (arith, (fit l room passed).turns)

      -- its departure that comes by first, in halves, and what passes from there on
      first : 1 ≤ v → (x : ℕ) × Passes (way_through (timed l) f coarse) x v × Turns (2 * l.cycle) (x + a + coarse c) instant
      first some =
          let (x, less, at_c) = meets (way_through (timed l) f coarse) c instant a around in
          (x, named.passes x at_c some, at_c)

      -- all of it is clear but for r and 10 halves at its start and r and 9 at its end
      clear_between : (late early : ℕ) → r + 10 ≤ late → r + 9 ≤ early → ClearBetween N (way_in l N (λ j. N * g j) near) c instant a v late early
      clear_between late early from_start from_end y after before =
          let after-start = mul-le-mul_left N from_start in
          let before-end = mul-le-mul_left N from_end in
          let z = way_in l N (λ j. N * g j) near in
          let w = d.window in
          let Nr : ℕ = N * r in
          let k : ℕ = into_band N z c instant a y in
          let there = w.each c (omega arith) in
          let small = w.within c (omega arith) in
          let (x, p, at_c) = first (some v (omega arith)) in
          let e = shrunk (Nr - w.δ c) (2 * Nr) x v (λ j h. omega (arith, w.within j h)) (omega arith) p in
          let turn = man_turns z.around (y + N * a + near c) (N * instant) (proper (λ j. N * g j) near).turns in
          turned z (proper (λ j. N * g j) near) y (N * x + (w.moved + (Nr - w.δ c) + N * 10)) (k - (Nr + N * 10)) (N * v - (2 * Nr + N * 19)) (omega arith)
          (record {
            p = turn.q + at_c.q;
            q = turn.p + at_c.p;
            eq = omega (arith, turn.eq, ap (λ (t : ℕ). N * t) at_c.eq, (d.finer f).lag c here);
          })
          e
        where
          some : (v : ℕ) → 1 ≤ N * v → 1 ≤ v
          some zero h = absurd (omega arith)
          some (suc v) h = omega arith

      -- the departure k after the window's own start is so long into the band
      into :
          (x k y : ℕ) → Turns (2 * l.cycle) (x + a + coarse c) instant → y ≡ N * x + d.window.moved + k → d.window.δ c + k < 2 * (N * l.cycle) →
          into_band N (way_in l N (λ j. N * g j) near) c instant a y ≡ d.window.δ c + k
      into x k y at_c is less =
          man_is (2 * (N * l.cycle)) (y + N * a + near c) (N * instant) (d.window.δ c + k) less
          (record {
            p = at_c.q;
            q = at_c.p;
            eq = omega (arith, ap (λ (t : ℕ). N * t) at_c.eq, (d.finer f).lag c here, d.window.each c (omega arith));
          })

      -- of what it loses, r halves and 19 and perhaps more
      module _ (most : ℕ) (enough : r + 19 ≤ most) where
        -- the departures that are left of it where it is wider than that
        record Left : Type 0 where
          from : ℕ
          passes : Passes (way_in l N (λ j. N * g j) near) from (N * (v - most))
          inside : (i : ℕ) → i < N * (v - most) → into_band N (way_in l N (λ j. N * g j) near) c instant a (from + i) < N * v

        left : most < v → Left
        left wide =
            let w = d.window in
            let k : ℕ = N * (v - most) in
            let top : ℕ = N * (most - 19) in
            let (x, p, at_c) = first (omega arith) in
            let from : ℕ = N * x + (w.moved + 0 + N * 10) in
            let all = mul-le-mul_left N wide in
            let cost = mul-le-mul_left N enough in
            let parts = mul-sub N most 19 in
            let small : N * r ≤ top = mul-le-mul_left N (omega arith) in
            let count : N * v - (top + N * 19) ≡ k = omega (arith, mul-sub N v most) in
            let e = subst (Passes (way_in l N (λ j. N * g j) near) from) count (shrunk 0 top x v (λ j h. omega (arith, w.within j h)) (omega arith) p) in
            let fits = mul-le-mul_left N p.most in
            record {
              from = from;
              passes = e;
              inside = λ i h. omega (arith, into x (N * 10 + i) (from + i) at_c (omega arith) (omega (arith, w.within c (omega arith))), w.within c (omega arith));
            }

        stretch_inside : StretchInside N (way_in l N (λ j. N * g j) near) c instant a v (v - most)
        stretch_inside = go (dec_le v most)
          where
            go : Dec (v ≤ most) → StretchInside N (way_in l N (λ j. N * g j) near) c instant a v (v - most)
            go (yes narrow) =
                let none : 0 ≡ v - most = omega arith in
                subst (StretchInside N (way_in l N (λ j. N * g j) near) c instant a v) none
                (record { from = 0; unbroken = nothing (way_in l N (λ j. N * g j) near) 0 N; inside = λ i h. absurd (omega arith) })
            go (no wide) =
                let rest = left (omega arith) in
                record { from = rest.from; unbroken = passes_stretch (way_in l N (λ j. N * g j) near) rest.from (N * (v - most)) rest.passes; inside = rest.inside }

        short : N * v ≤ width (way_in l N (λ j. N * g j) near) + N * most
        short = go (dec_le v most)
          where
            go : Dec (v ≤ most) → N * v ≤ width (way_in l N (λ j. N * g j) near) + N * most
            go (yes narrow) = omega (arith, mul-le-mul_left N narrow)
            go (no wide) =
                let rest = left (omega arith) in
                omega (arith, mul-sub N v most, width_ge (way_in l N (λ j. N * g j) near) (proper (λ j. N * g j) near) rest.from (N * (v - most)) rest.passes)

        pub band : Band N (way_in l N (λ j. N * g j) near) c instant a v r most
        band = record { clear = clear_between; inside = stretch_inside; short = short }
