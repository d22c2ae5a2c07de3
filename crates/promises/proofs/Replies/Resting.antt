-- The promises of streets where every signal rests: the method's numbers there, and a band with no red to end it. Assumes nothing.
use Rattle.std.specs.Prelude.{Ok, Err}
use Prim.Native.Nat.{ℕ, ◌+◌, ◌<◌}
use mathlib.Core.Path.{◌≡◌, refl, sym, ap, ◌∙◌}
use native.Mathlib.Omega.{arith}
use native.Mathlib.Decide.{ℕ_discrete}
use lib.ListN.{length, get_or}
use Rattle.circle.specs.Method.{Timed, halves}
use Rattle.circle.specs.Moved.{other_width}
use Rattle.circle.specs.Bands.{outbound_way, inbound_way}
use Rattle.circle.proofs.Formulas.{Fit, asked, resting_B, resting_asked, resting_other, resting_range, resting_reference, resting_width}
use Rattle.circle.proofs.Stretches.{along, no_red_lem, proper_way}
use Rattle.street.specs.Lists.{signals}
use Rattle.street.specs.Checks.{unless, plan_checks}
use Rattle.street.specs.Streets.{timed}
use Rattle.street.specs.declared.Code.TheVariants.{Width}
use Rattle.street.specs.Verdicts.{Verdict}
use Rattle.street.proofs.CheckLaws.{code_some}
use Rattle.street.proofs.Passed.{first_passed}
use Rattle.stretches.specs.Stretches.{band_of}
use Rattle.widths.specs.Moved.{shift_of, outbound_width, inbound_width}
use Rattle.widths.specs.Checks.{width_check}
use Rattle.widths.specs.declared.Shift.{Shift}
use Rattle.widths.specs.declared.Shift.TheVariants.{Unmoved, Outbound, Inbound}
use Rattle.bands.specs.Measure.{offset_check, measure_checks, measured_of, band_numbers}
use Rattle.street.specs.Verdicts.{answered}
use Rattle.bands.proofs.CheckLaws.{checks_short, checks_full}
use Rattle.promises.specs.Resting.{RestingReplies, RestingWidths, RestingMeasures}
use Rattle.promises.proofs.Streets.Passing.{fit}
use Rattle.promises.proofs.Kept.{InRange}
use Rattle.promises.proofs.Replies.Calls.{reply_told}

module _ (s : Timed) (ok : Fit s) (rest : (j : ℕ) → j < s.signals → s.red j ≡ 0) where
  -- a shift in range gives both directions the cycle
  shifted : (shift : Shift) → InRange s shift → (outbound_width shift s ≡ halves s) × (inbound_width shift s ≡ halves s)
  shifted Unmoved range = (resting_width s ok rest, resting_width s ok rest)
  shifted (Outbound w) range =
      let all = resting_asked s ok rest w (asked s ok w range) in
      (all, ap (other_width s) all ∙ resting_other s ok rest)
  shifted (Inbound w) range =
      let all = resting_asked s ok rest w (asked s ok w range) in
      (ap (other_width s) all ∙ resting_other s ok rest, all)

  -- and no red ends a band
  band-whole : (f lag : ℕ → ℕ) → band_of (along (outbound_way s f) lag) ≡ record { width = halves s; start = 0 }
  band-whole f lag =
      let is = no_red_lem (along (outbound_way s f) lag) (proper_way s f ok) (λ j l. omega (arith, rest j l)) in
      λ i. record { width = sym is.wide i; start = sym is.starts i }

pub resting_replies : RestingReplies
resting_replies asked l entry exit r call code rest =
    let s = timed l in
    let told = reply_told asked l entry exit r call code in
    let ok = fit l (length entry) told.passed in
    let is = sym told.numbers in
    let first = ap (λ (k : ℕ). k + 1) (resting_reference s ok rest) in
    let both = shifted s ok rest (shift_of asked s) told.range in
    (ap (λ p. p.reference) is ∙ first, ap (λ p. p.b) is ∙ resting_B s ok rest, ap (λ p. p.outbound) is ∙ both.0, ap (λ p. p.inbound) is ∙ both.1)

pub resting_widths : RestingWidths
unfolding width_check
resting_widths l room passed rest w = ap (λ t. unless t Width) (resting_range (timed l) (fit l room passed) rest w)

pub resting_measures : RestingMeasures
resting_measures l offsets rest = go (measure_checks l offsets) refl
  where
    s : Timed
    s = timed l

    go : (v : Verdict) → measure_checks l offsets ≡ v → (band_numbers (answered v (measured_of s offsets))).code ≡ 0 →
        ((band_numbers (answered v (measured_of s offsets))).outbound ≡ record { width = halves s; start = 0 })
        × ((band_numbers (answered v (measured_of s offsets))).inbound ≡ record { width = halves s; start = 0 })
    go (Err f) is code = absurd (omega (arith, code_some f.code))
    go (Ok tt) is code = found (ℕ_discrete (length offsets) (signals l))
      where
        found : Dec (length offsets ≡ signals l) → (band_of (outbound_way s (λ j. get_or offsets j 0)) ≡ record { width = halves s; start = 0 }) × (band_of (inbound_way s (λ j. get_or offsets j 0)) ≡ record { width = halves s; start = 0 })
        found (no n) = let z : ◌≡◌ {A = ℕ} 0 1 = cc (checks_short l offsets n, is) in absurd (omega arith)
        found (yes e) =
            let passed = first_passed (plan_checks l (signals l)) (offset_check l.cycle offsets) (sym (checks_full l offsets e) ∙ is) in
            let ok = fit l (signals l) passed in
            let f : ℕ → ℕ = λ j. get_or offsets j 0 in
            (band-whole s ok rest f (outbound_way s f).lag, band-whole s ok rest f (inbound_way s f).lag)
