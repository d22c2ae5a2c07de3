-- Of the indices below a count at which one number is above 0, one at which another is least, or there is no such index. Assumes nothing.
use Prim.Native.Nat.{ℕ, zero, suc, ◌≤◌, ◌<◌}
use mathlib.Core.Path.{◌≡◌, ap}
use mathlib.Core.Logic.{◌⊎◌, inl, inr, ⊎_elim}
use native.Mathlib.Omega.{arith}
use native.Mathlib.Decide.{dec_lt, dec_le}
use native.Mathlib.Nat.{eq-or-lt_of_le, le_of_suc-le-suc}

-- among the indices below n where g is above 0, one with the least f
pub record Least (n : ℕ) (g f : ℕ → ℕ) : Type 0 where
  pub at : ℕ
  pub below : at < n
  pub counts : 0 < g at
  pub least : (j : ℕ) → j < n → 0 < g j → f at ≤ f j

-- how it grows by one index: the new one takes over, or the old one stays
module _ (n : ℕ) (g f : ℕ → ℕ) where
  over : 0 < g n → ((j : ℕ) → j < n → 0 < g j → f n ≤ f j) → Least (suc n) g f
  over counts before =
      record {
        at = n;
        below = omega arith;
        counts = counts;
        least =
            λ j l c.
            ⊎_elim
            (λ e. let same : f j ≡ f n = ap f e in omega arith)
            (λ m. before j m c)
            (eq-or-lt_of_le (le_of_suc-le-suc l));
      }

  stay : (m : Least n g f) → (0 < g n → f m.at ≤ f n) → Least (suc n) g f
  stay m last =
      record {
        at = m.at;
        below = omega (arith, m.below);
        counts = m.counts;
        least =
            λ j l c.
            ⊎_elim
            (λ e.
            let same : f j ≡ f n = ap f e in
            let here : g j ≡ g n = ap g e in
            let k : f m.at ≤ f n = last (omega arith) in
            omega arith)
            (λ h. m.least j h c)
            (eq-or-lt_of_le (le_of_suc-le-suc l));
      }

  grow : Dec (0 < g n) → Least n g f ⊎ ((j : ℕ) → j < n → 0 < g j → ⊥) → Least (suc n) g f ⊎ ((j : ℕ) → j < suc n → 0 < g j → ⊥)
  grow (yes c) (inr none) = inl (over c (λ j l d. absurd (none j l d)))
  grow (no c) (inl m) = inl (stay m (λ d. absurd (c d)))
  grow (no c) (inr none) =
      inr
      (λ j l d.
      ⊎_elim (λ e. let here : g j ≡ g n = ap g e in omega (arith, c)) (λ h. none j h d) (eq-or-lt_of_le (le_of_suc-le-suc l)))
  grow (yes c) (inl m) = inl (pick (dec_le (f n) (f m.at)))
    where
      pick : Dec (f n ≤ f m.at) → Least (suc n) g f
      pick (yes l) = over c (λ j h d. let k = m.least j h d in omega arith)
      pick (no l) = stay m (λ d. omega arith)

pub least_or_none : (n : ℕ) (g f : ℕ → ℕ) → Least n g f ⊎ ((j : ℕ) → j < n → 0 < g j → ⊥)
least_or_none zero g f = inr (λ j l c. omega arith)
least_or_none (suc n) g f = grow n g f (dec_lt 0 (g n)) (least_or_none n g f)
