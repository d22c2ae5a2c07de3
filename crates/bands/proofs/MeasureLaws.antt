-- From the street that the search works on to the measure of the typed lists. Seen from where it departs, a direction has the band of its way; the street and the lists agree
-- at every signal, so their bands are the same. The call answers by the checks, or with these bands. Assumes nothing.
use Rattle.std.specs.Prelude.{Ok, Err}
use Prim.Native.Nat.{ℕ, ◌+◌, ◌<◌}
use mathlib.Core.Path.{◌≡◌, sym, ap, ◌∙◌}
use mathlib.Core.List.{List}
use native.Mathlib.Omega.{arith}
use lib.IntN.{pos, ◌-ℤ◌}
use lib.ListN.{length, get_or}
use Rattle.circle.specs.Method.{Timed, halves}
use Rattle.circle.specs.Bands.{outbound_way, inbound_way}
use Rattle.circle.proofs.Numbers.{man_lt}
use Rattle.circle.proofs.Stretches.{outbound_alike, inbound_alike}
use Rattle.street.specs.Lists.{Lists, signals}
use Rattle.street.specs.Checks.{or_next, plan_checks}
use Rattle.street.specs.Streets.{timed}
use Rattle.street.specs.Steps.{Checked, street_of, timed_street, Sound}
use Rattle.street.specs.declared.Code.TheVariants.{Count}
use Rattle.street.specs.declared.Refusal.{Refusal}
use Rattle.street.proofs.Sound.{street_agrees}
use Rattle.stretches.specs.declared.Band.{Band}
use Rattle.stretches.specs.Stretches.{band_of}
use Rattle.bands.specs.declared.Direction.{Direction}
use Rattle.bands.specs.Measure.{Measurement}
use Rattle.bands.specs.Steps.{way_of, lag_of, Ended, seen}
use Rattle.bands.specs.Measure.{offset_check, measured_of, measurement_of}
use Rattle.street.specs.Verdicts.{answered}
use Rattle.bands.proofs.SearchLaws.{OnCycle, seen_alike, band_alike}
use Rattle.bands.proofs.CheckLaws.{checks_short, checks_full}

module _ (s : Timed) (ok : Sound s) (direction : Direction) (offsets ends : List ℕ) (ended : Ended direction s offsets ends) where
  pub ends_on : OnCycle s ends
  ends_on =
      let turns : 0 < halves s = omega (arith, ok.shortest) in
      record {
        each = λ j l. omega (arith, ended.each j l, man_lt (halves s) (pos (get_or offsets j 0 + s.red j) -ℤ pos (lag_of direction s j)) turns);
      }

  pub band-way : (b : Band) → b ≡ band_of (seen s ends) → b ≡ band_of (way_of direction s offsets)
  band-way b e =
      e
      ∙ band_alike (seen s ends) (way_of direction s offsets)
      (seen_alike s offsets ends (lag_of direction s) (omega (arith, ok.shortest)) ended.each)

-- the street's measure is the lists'
pub measured_agree : (l : Lists) (room : ℕ) (offsets : List ℕ) → plan_checks l room ≡ (Ok tt) → measured_of (timed_street (street_of l)) offsets ≡ measured_of (timed l) offsets
measured_agree l room offsets passed =
    let z = timed_street (street_of l) in
    let agree = street_agrees l room passed in
    let f : ℕ → ℕ = λ j. get_or offsets j 0 in
    λ i.
    record {
      outbound = band_alike (outbound_way z f) (outbound_way (timed l) f) (outbound_alike z (timed l) agree f) i;
      inbound = band_alike (inbound_way z f) (inbound_way (timed l) f) (inbound_alike z (timed l) agree f) i;
    }

module _ (l : Lists) (offsets : List ℕ) where
  -- what the call answers: to too few or too many offsets, to a street that is refused, and to one whose checks passed
  pub measure_short : (length offsets ≡ signals l → ⊥) → Err (record { code = Count; place = 0 }) ≡ measurement_of l offsets
  measure_short n = sym (ap (λ v. answered v (measured_of (timed l) offsets)) (checks_short l offsets n))

  pub measure_refused : (f : Refusal) → length offsets ≡ signals l → plan_checks l (signals l) ≡ Err f → Err f ≡ measurement_of l offsets
  measure_refused f e r =
      sym (ap (λ v. answered v (measured_of (timed l) offsets)) (checks_full l offsets e ∙ ap (λ v. or_next v (offset_check l.cycle offsets)) r))

  pub measure_built : (s : Checked) (r : Measurement) → length offsets ≡ signals l → plan_checks l (signals l) ≡ (Ok tt) → s ≡ street_of l → r ≡ answered (offset_check s.cycle offsets) (measured_of (timed_street s) offsets) → r ≡ measurement_of l offsets
  measure_built s r e passed is answer =
      answer
      ∙ ap (λ x. answered (offset_check x.cycle offsets) (measured_of (timed_street x) offsets)) is
      ∙ ap (answered (offset_check l.cycle offsets)) (measured_agree l (signals l) offsets passed)
      ∙ sym (ap (λ v. answered v (measured_of (timed l) offsets)) (checks_full l offsets e ∙ ap (λ v. or_next v (offset_check l.cycle offsets)) passed))
