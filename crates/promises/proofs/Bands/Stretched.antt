-- From rounded times to lags near them and back, in one direction. A stretch under one of the two lists of lags is a stretch under the other, shorter by N times r: they differ within a window
-- of that length. So a band along the near lags is at most N times r narrower than a stretch of halves at rounded times, and leaves one that is at most N times r narrower than itself. Counted
-- at a signal c, where both kinds of times agree, a stretch loses at most N times r at each end: what is left of a named band is clear. Assumes nothing.
use Rattle.std.specs.Prelude.{Ok}
use Prim.Native.Nat.{ℕ, zero, suc, ◌+◌, ◌-◌, ◌*◌, ◌≤◌, ◌<◌}
use mathlib.Core.Path.{◌≡◌, sym, ap, subst, ◌∙◌}
use mathlib.Core.Bool.{true}
use native.Mathlib.Omega.{arith}
use native.Mathlib.Decide.{dec_le}
use Rattle.circle.specs.Method.{in_units}
use Rattle.circle.specs.Bands.{Way, clear, stretch, width, band_start, way_through}
use Rattle.circle.proofs.Numbers.{Turns, man_turns, all_each}
use Rattle.circle.proofs.Stretches.{Passes, Proper, passes_stretch, since_turns, width_ge, band_starts, lags_passes, lags_back, part, proper_way}
use Rattle.circle.proofs.Bands.{Named, meets, finer_passes, fit_scaled}
use Rattle.street.specs.Lists.{Lists, signals}
use Rattle.street.specs.Checks.{plan_checks}
use Rattle.street.specs.Streets.{timed}
use Rattle.promises.specs.Replies.{InsideClear, into_band}
use Rattle.promises.proofs.Streets.Passing.{fit}
use Rattle.promises.proofs.Streets.Directions.{way_in, Direction}

-- of k departures that pass each one is clear, and so is one that differs from it by whole turns
pub turned : (w : Way) → Proper w → (x y i k : ℕ) → i < k → Turns w.around x (y + i) → Passes w y k → clear w x ≡ true
unfolding stretch
turned w proper x y i k l turns passes =
    let one = part w i (k - 1) y k (omega arith) (omega arith) passes in
    let here : Passes w x 1 = record { most = omega (arith, one.most); each = λ j h r. omega (arith, since_turns w proper x (y + i) j turns, one.each j h r) } in
    let first : x + 0 ≡ x = omega arith in
    sym (ap (clear w) first) ∙ all_each 1 (λ i. clear w (x + i)) (passes_stretch w x 1 here) 0 (omega arith)

module _ (l : Lists) (room : ℕ) (passed : plan_checks l room ≡ (Ok tt)) (N r : ℕ) (fine : 0 < N) {coarse rounded near : ℕ → ℕ} (d : Direction l N r coarse rounded near) where
  pub proper : (f : ℕ → ℕ) → Proper (way_in l N f near)
  proper f = proper_way (in_units N (timed l)) f (fit_scaled N (timed l) fine (fit l room passed))

  -- k departures that pass at rounded times, and along the near lags all but N times r of them
  forth : (f : ℕ → ℕ) (x k : ℕ) → N * r ≤ k → Passes (way_in l N f rounded) x k → Passes (way_in l N f near) (x + d.window.moved) (k - N * r)
  forth f x k some p =
      let w = d.window in
      lags_passes (way_in l N f rounded) near w.δ w.moved (N * r) (λ j h. w.each j (omega arith)) (λ j h. w.within j (omega arith)) x k some p

  -- and back
  back : (f : ℕ → ℕ) (x k : ℕ) → N * r ≤ k → Passes (way_in l N f near) x k → (y : ℕ) × Passes (way_in l N f rounded) y (k - N * r)
  back f x k some p =
      let w = d.window in
      (_, lags_back (way_in l N f rounded) near w.δ w.moved (N * r) (λ j h. w.each j (omega arith)) (λ j h. w.within j (omega arith)) x k (proper f).turns some p)

  -- a band along the near lags that is wider than N times r leaves a stretch at rounded times
  pub leaves : (f : ℕ → ℕ) → N * r < width (way_in l N f near) → (y : ℕ) × Passes (way_in l N f rounded) y (width (way_in l N f near) - N * r)
  leaves f wide =
      let z = way_in l N f near in
      back f (band_start z) (width z) (omega arith) (band_starts z (proper f) (omega arith)).passes

  -- and where nothing is lost it is one
  pub all_left : N * r ≡ 0 → (f : ℕ → ℕ) → 1 ≤ width (way_in l N f near) → (y : ℕ) × Passes (way_in l N f rounded) y (width (way_in l N f near))
  all_left nothing f some =
      let w = width (way_in l N f near) in
      let all : w - N * r ≡ w = omega arith in
      let (y, p) = leaves f (omega arith) in
      (y, subst (Passes (way_in l N f rounded) y) all p)

  -- so where no stretch at rounded times exceeds `top`, no band along the near lags exceeds it by more than N times r
  no_wider : (f : ℕ → ℕ) (top : ℕ) → ((x k : ℕ) → Passes (way_in l N f rounded) x k → k ≤ top) → width (way_in l N f near) ≤ top + N * r
  no_wider f top most = go (dec_le (width (way_in l N f near)) (N * r))
    where
      go : Dec (width (way_in l N f near) ≤ N * r) → width (way_in l N f near) ≤ top + N * r
      go (yes h) = omega arith
      go (no h) =
          let (y, p) = leaves f (omega arith) in
          omega (arith, most y (width (way_in l N f near) - N * r) p)

  module _ (f : ℕ → ℕ) where
    -- a stretch of v halves at rounded times is N times r wider than the band along the near lags at most
    short : (x v : ℕ) → Passes (way_through (timed l) f coarse) x v → N * v ≤ width (way_in l N (λ j. N * f j) near) + N * r
    short x v p = go (dec_le (N * v) (N * r))
      where
        go : Dec (N * v ≤ N * r) → N * v ≤ width (way_in l N (λ j. N * f j) near) + N * r
        go (yes little) = omega arith
        go (no more) =
            let w = way_in l N (λ j. N * f j) near in
            let q = finer_passes N (way_through (timed l) f coarse) (way_in l N (λ j. N * f j) rounded) (d.finer f) (proper (λ j. N * f j)).turns x v p in
            let e = forth (λ j. N * f j) (N * x) (N * v) (omega arith) q in
            omega (arith, width_ge w (proper (λ j. N * f j)) (N * x + d.window.moved) (N * v - N * r) e)

    around : 0 < 2 * l.cycle
    around = omega (arith, (fit l room passed).turns)

    -- and so is a named band
    pub named_short : (c instant a v : ℕ) → Named (way_through (timed l) f coarse) c instant a v → N * v ≤ width (way_in l N (λ j. N * f j) near) + N * r
    named_short c instant a v named = go (dec_le 1 v)
      where
        go : Dec (1 ≤ v) → N * v ≤ width (way_in l N (λ j. N * f j) near) + N * r
        go (yes some) =
            let (x, less, at_c) = meets (way_through (timed l) f coarse) c instant a around in
            short x v (named.passes x at_c some)
        go (no none) = let e : v ≡ 0 = omega arith in omega (arith, ap (λ (z : ℕ). N * z) e)

    -- where nothing is lost, a named band that no stretch in the fine unit exceeds is the band
    pub named_exact :
        N * r ≡ 0 → (c instant a v : ℕ) → Named (way_through (timed l) f coarse) c instant a v →
        ((x k : ℕ) → Passes (way_in l N (λ j. N * f j) rounded) x k → k ≤ N * v) → width (way_in l N (λ j. N * f j) near) ≡ N * v
    named_exact nothing c instant a v named most =
        omega (arith, nothing, named_short c instant a v named, no_wider (λ j. N * f j) (N * v) most)

    -- counted at c all of it but N times r at each end is clear
    pub named_inside : (c instant a v : ℕ) → c < signals l → Named (way_through (timed l) f coarse) c instant a v → InsideClear N (way_in l N (λ j. N * f j) near) c instant a v r
    named_inside c instant a v here named y late early =
        let (x, less, at_c) = meets (way_through (timed l) f coarse) c instant a around in
        let z = way_in l N (λ j. N * f j) near in
        let counted = way_in l N (λ j. N * f j) rounded in
        let w = d.window in
        let Nr : ℕ = N * r in
        let k : ℕ = into_band N z c instant a y in
        let late_by : ℕ = w.moved + Nr - w.δ c in
        let there = w.each c (omega arith) in
        let small = w.within c (omega arith) in
        let room : 2 * Nr + 1 ≤ N * v = omega arith in
        let q = finer_passes N (way_through (timed l) f coarse) counted (d.finer f) (proper (λ j. N * f j)).turns x v (named.passes x at_c (some v room)) in
        let e = lags_passes counted near (λ j. w.δ j + Nr - w.δ c) late_by (2 * Nr) (λ j h. omega (arith, w.each j (omega arith))) (λ j h. omega (arith, w.within j (omega arith))) (N * x) (N * v) (omega arith) q in
        let turn = man_turns z.around (y + N * a + near c) (N * instant) (proper (λ j. N * f j)).turns in
        turned z (proper (λ j. N * f j)) y (N * x + late_by) (k - Nr) (N * v - 2 * Nr) (omega arith)
        (record {
          p = turn.q + at_c.q;
          q = turn.p + at_c.p;
          eq = omega (arith, turn.eq, ap (λ (t : ℕ). N * t) at_c.eq, (d.finer f).lag c here);
        })
        e
      where
        some : (v : ℕ) → 2 * (N * r) + 1 ≤ N * v → 1 ≤ v
        some zero h = absurd (omega arith)
        some (suc v) h = omega arith
