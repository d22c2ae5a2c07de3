-- A street where every signal rests in green (02, 2026-05): the reference is the first signal, B and g are the cycle, so that the cycle is the one width in range, and it leaves the cycle the
-- other way too. Assumes nothing.
use Prim.Native.Nat.{ℕ, ◌-◌, ◌*◌, ◌<◌}
use mathlib.Core.Path.{◌≡◌, sym, ap, ◌∙◌}
use native.Mathlib.Omega.{arith}
use native.Mathlib.Decide.{dec_lt, ℕ_discrete}
use lib.IntN.{pos, sub_ℕ}
use lib.Dec.{eqb}
use borrow.Author.Tests.{eq-eqb, ne_eqb}
use Rattle.circle.specs.Method.{Timed, halves, B, reference, equal_width}
use Rattle.circle.specs.Moved.{in_range, other_width}
use Rattle.circle.proofs.Numbers.Signed.{sub_pos}
use Rattle.circle.proofs.Formulas.Raised.{Fit, B⁺, B_raised, rank_rest}
use Rattle.circle.proofs.Formulas.Reference.{reference-first, reference_rests}
use Rattle.circle.proofs.Formulas.Moving.{Asked, green-from, within, outside, equal_width_lem, other_width_lem}

module _ (s : Timed) (fit : Fit s) (rest : (j : ℕ) → j < s.signals → s.red j ≡ 0) where
  none : (j : ℕ) → j < s.signals → 0 < s.red j → ⊥
  none j l red = omega (arith, rest j l)

  pub resting_reference : reference s ≡ 0
  resting_reference = go (dec_lt 0 (reference s))
    where
      go : Dec (0 < reference s) → reference s ≡ 0
      go (yes l) =
          let m = reference-first s fit in
          absurd (omega (arith, m.before 0 l, m.best, rank_rest s (reference s) (none (reference s) m.below)))
      go (no l) = omega arith

  whole : B⁺ s ≡ 4 * s.cycle
  whole = (reference_rests s fit (none (reference s) (reference-first s fit).below)).0

  pub resting_B : B s ≡ pos (halves s)
  resting_B =
      let rest_of : 4 * s.cycle - halves s ≡ halves s = omega arith in
      B_raised s fit ∙ ap (λ (x : ℕ). sub_ℕ x (halves s)) whole ∙ sub_pos (4 * s.cycle) (halves s) (omega arith) ∙ ap pos rest_of

  pub resting_width : equal_width s ≡ halves s
  resting_width = omega (arith, equal_width_lem s fit, whole)

  pub resting_other : other_width s (halves s) ≡ halves s
  resting_other = omega (arith, other_width_lem s fit (halves s), whole)

  -- a width in range is the cycle
  pub resting_asked : (w : ℕ) → Asked s w → w ≡ halves s
  resting_asked w a = omega (arith, a.reaches, a.fits 0 fit.some, whole)

  pub resting_range : (w : ℕ) → in_range s w ≡ eqb w (halves s)
  resting_range w = go (ℕ_discrete w (halves s))
    where
      go : Dec (w ≡ halves s) → in_range s w ≡ eqb w (halves s)
      go (yes e) =
          within s fit w (omega (arith, fit.turns)) (omega (arith, whole)) (green-from s fit w (λ j l. omega (arith, rest j l)))
          ∙ sym (eq-eqb w (halves s) e)
      go (no n) = outside s fit w (λ a. n (resting_asked w a)) ∙ sym (ne_eqb w (halves s) n)
