-- The candidates for a band's start: each signal's red end, brought back to the departure signal. Of the instant 0 and the candidates below a count that have a red, the best has
-- the longest stretch, and the smallest start among equals; one more candidate takes its place, or does not, and a signal with no red is passed over. The best of all is the
-- band: a stretch of the greatest width starts as a red ends, and where no signal has a red, the band is the whole cycle from 0. Assumes nothing.
use Prim.Native.Nat.{ℕ, zero, suc, ◌+◌, ◌≤◌, ◌<◌}
use mathlib.Core.Path.{◌≡◌, refl, sym, ◌∙◌, subst}
use mathlib.Core.Logic.{⊎_elim}
use native.Mathlib.Omega.{arith}
use native.Mathlib.Nat.{eq-or-lt_of_le}
use Rattle.circle.specs.Bands.{Way, width, band_start}
use Rattle.circle.proofs.Stretches.Arcs.{Passes}
use Rattle.circle.proofs.Stretches.Clear.{Proper, width_ge, width_le, band_starts, start_none}
use Rattle.circle.proofs.Stretches.Longest.{longest, longest_passes, longest_ge, longest-width, starts_ending, end_at, end_is}

-- the longest stretch from a candidate's start
abbrev pub from : Way → ℕ → ℕ
from w i = longest w (end_at w i)

-- a stretch of length v from x is no worse than one of length u from y: no shorter, and where it is as long it starts no later
abbrev pub NoWorse : ℕ → ℕ → ℕ → ℕ → Type 0
NoWorse v x u y = (u ≤ v) × (u ≡ v → x ≤ y)

-- the longest stretch from x, of length v, and none from 0 or from a candidate below n that has a red is better
pub record Best (w : Way) (n v x : ℕ) : Type 0 where
  pub below : x < w.around
  pub as_long : longest w x ≡ v
  pub at_zero : NoWorse v x (longest w 0) 0
  pub each : (i : ℕ) → i < n → 0 < w.length i → NoWorse v x (from w i) (end_at w i)

-- before any candidate it is the one from 0
pub best_none : (w : Way) → Proper w → Best w 0 (longest w 0) 0
best_none w proper =
    record {
      below = proper.turns;
      as_long = refl;
      at_zero = (omega arith, λ e. omega arith);
      each = λ i l red. absurd (omega arith);
    }

-- one more candidate: a stretch that is no worse than the best so far, nor than the candidate's own where its signal has a red
pub best_more : (w : Way) (n v x u y : ℕ) → Best w n v x → y < w.around → longest w y ≡ u → NoWorse u y v x → (0 < w.length n → NoWorse u y (from w n) (end_at w n)) → Best w (n + 1) u y
best_more w n v x u y best below as_long old new =
    record {
      below = below;
      as_long = as_long;
      at_zero = than_best (longest w 0) 0 best.at_zero;
      each =
          λ i l.
          ⊎_elim
          (λ s. subst (λ (k : ℕ). 0 < w.length k → NoWorse u y (from w k) (end_at w k)) (sym s) new)
          (λ m red. than_best (from w i) (end_at w i) (best.each i m red))
          (eq-or-lt_of_le (omega arith));
    }
  where
    than_best : (t z : ℕ) → NoWorse v x t z → NoWorse u y t z
    than_best t z worse =
        (omega (arith, old.0, worse.0), λ e. omega (arith, old.1 (omega (arith, old.0, worse.0)), worse.1 (omega (arith, old.0, worse.0))))

-- a signal with no red is passed over
pub best_passed : (w : Way) (n v x : ℕ) → Best w n v x → w.length n ≡ 0 → Best w (n + 1) v x
best_passed w n v x best none =
    best_more w n v x v x best best.below best.as_long (omega arith, λ e. omega arith) (λ red. absurd (omega arith))

-- what the band is, by its numbers
pub record IsBand (w : Way) (v x : ℕ) : Type 0 where
  pub wide : v ≡ width w
  pub starts : x ≡ band_start w

-- where no signal has a red, every departure is clear
pub no_red_lem : (w : Way) → Proper w → ((j : ℕ) → j < w.signals → w.length j ≡ 0) → IsBand w w.around 0
no_red_lem w proper none =
    let open-way : (k : ℕ) → k ≤ w.around → Passes w 0 k = λ k l. record { most = l; each = λ j l red. absurd (omega (arith, none j l)) } in
    let wide = width_ge w proper 0 w.around (open-way w.around (omega arith)) in
    let most = width_le w in
    let band = band_starts w proper (omega (arith, proper.turns)) in
    record { wide = omega arith; starts = omega (arith, band.least 0 proper.turns (open-way (width w) most)) }

-- the best of 0 and all candidates is the band
pub best_band : (w : Way) → Proper w → (v x : ℕ) → Best w w.signals v x → IsBand w v x
best_band w proper v x best = go (width w) refl
  where
    low : v ≤ width w
    low = omega (arith, best.as_long, longest-width w proper x)

    -- the band starts at a candidate, or at 0, so that it is not better than the best
    tried : 1 ≤ width w → NoWorse v x (width w) (band_start w)
    tried one =
        let band = band_starts w proper one in
        let whole : longest w (band_start w) ≡ width w = omega (arith, longest-width w proper (band_start w), longest_ge w (band_start w) (width w) band.passes) in
        let at : (y : ℕ) → y ≡ band_start w → NoWorse v x (longest w y) y → NoWorse v x (longest w (band_start w)) (band_start w) =
        λ y e. subst (λ (z : ℕ). NoWorse v x (longest w z) z) e in
        subst (λ (u : ℕ). NoWorse v x u (band_start w)) whole
        (⊎_elim
        (λ s. at (end_at w s.signal) (end_is w proper (band_start w) s.signal band.below s.ends) (best.each s.signal s.below s.red))
        (λ none. at 0 (no_red_lem w proper (λ j l. omega (arith, none j l))).starts best.at_zero)
        (starts_ending w proper (band_start w) band.passes))

    go : (a : ℕ) → width w ≡ a → IsBand w v x
    go zero e =
        let first = best.at_zero.1 (omega (arith, low, longest-width w proper 0)) in
        record { wide = omega (arith, low); starts = omega (arith, first, start_none w proper e) }
    go (suc a) e =
        let one : 1 ≤ width w = omega arith in
        let same : v ≡ width w = omega (arith, low, (tried one).0) in
        let some : 1 ≤ longest w x = omega (arith, best.as_long) in
        let passes : Passes w x (width w) = subst (Passes w x) (best.as_long ∙ same) (longest_passes w proper x some) in
        record { wide = same; starts = omega (arith, (tried one).1 (sym same), (band_starts w proper one).least x best.below passes) }
