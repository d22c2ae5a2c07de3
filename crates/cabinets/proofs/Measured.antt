-- The measure of the offsets that the cabinets keep. They are instants of the cycle, so that no check refuses them; and the width that it finds is the one that is promised at rounded times, in whole halves.
-- Assumes nothing.
use Rattle.std.specs.Prelude.{Ok}
use Prim.Native.Nat.{ℕ, ◌+◌, ◌-◌, ◌*◌, ◌≤◌, ◌<◌}
use mathlib.Core.Path.{◌≡◌, refl, sym, ap, subst, ◌∙◌}
use mathlib.Core.List.{List, [], append-nil}
use native.Mathlib.Omega.{arith}
use lib.IntN.{pos, ◌-ℤ◌}
use lib.ListN.{length, get_or}
use Rattle.circle.specs.Man.{man}
use Rattle.circle.specs.Over.{list_below}
use Rattle.circle.specs.Method.{Timed, in_units, red_start}
use Rattle.circle.specs.Bands.{width, way_through}
use Rattle.circle.proofs.Numbers.{get_or-list_below, length_list_below, man_lt}
use Rattle.circle.proofs.Stretches.{width_alike}
use Rattle.street.specs.Lists.{signals}
use Rattle.street.specs.Streets.{timed}
use Rattle.plans.specs.Answers.{plan_numbers}
use Rattle.bands.specs.Measure.{measured_of, measurement_of, band_numbers}
use Rattle.street.specs.Verdicts.{answered}
use Rattle.promises.proofs.Streets.Passing.{fit}
use Rattle.promises.proofs.Replies.Measures.{accepted}
use Rattle.seconds.specs.Seconds.{second_halves}
use Rattle.cabinets.specs.Kept.{kept_offset, SecondsMeasured}
use Rattle.cabinets.proofs.Kept.{reply_said, seconds_rounded}

-- the entries of a list of offsets
entry_is : (n : ℕ) (g : ℕ → ℕ) (j : ℕ) → j < n → get_or (list_below n g) j 0 ≡ g j
entry_is n g j h = sym (ap (λ (x : List ℕ). get_or x j 0) (append-nil (list_below n g))) ∙ get_or-list_below n g [] j 0 h

-- in a unit of which one makes a half a way is the one in halves
in_halves :
    (s : Timed) (f g lag lag' : ℕ → ℕ) → ((j : ℕ) → j < s.signals → f j ≡ g j) → ((j : ℕ) → lag j ≡ lag' j) →
    width (way_through (in_units 1 s) (λ j. 1 * f j) lag) ≡ width (way_through s g lag')
unfolding red_start
in_halves s f g lag lag' same late =
    width_alike (way_through (in_units 1 s) (λ j. 1 * f j) lag) (way_through s g lag')
    (record {
      around = omega arith;
      signals = refl;
      length = λ j h. omega arith;
      past =
          λ x j h.
          let H : 2 * (1 * s.cycle) ≡ 2 * s.cycle = omega arith in
          let red : 1 * s.red j ≡ s.red j = omega arith in
          let at : 1 * f j ≡ g j = omega (arith, same j h) in
          λ i. man (H i) (pos (x + late j i) -ℤ pos (man (H i) (pos (at i) -ℤ pos (red i))));
    })

pub seconds_measured : SecondsMeasured
seconds_measured asked l entry exit r call code =
    let s = timed l in
    let said = reply_said asked l entry exit r call code in
    let g : ℕ → ℕ = kept_offset l exit in
    let offsets = list_below (signals l) g in
    let around : 0 < 2 * l.cycle = omega (arith, (fit l (length entry) said.passed).turns) in
    let kept = seconds_rounded asked l entry exit r call code 1 (omega arith) in
    let same : (j : ℕ) → j < signals l → g j ≡ get_or offsets j 0 = λ j h. sym (entry_is (signals l) g j h) in
    let out = in_halves s g (λ j. get_or offsets j 0) (λ j. 2 * (1 * s.outbound j)) (λ j. 2 * s.outbound j) same (λ j. omega arith) in
    let back = in_halves s g (λ j. get_or offsets j 0) (λ j. 2 * (1 * s.inbound (s.signals - 1) - 1 * s.inbound j)) (λ j. 2 * (s.inbound (s.signals - 1) - s.inbound j)) same (λ j. omega arith) in
    let p = (plan_numbers r).plan in
    let less : (j : ℕ) → j < signals l → get_or offsets j 0 < 2 * l.cycle =
    λ j h. omega (arith, entry_is (signals l) g j h, man_lt (2 * l.cycle) (pos (second_halves * get_or exit j 0) -ℤ pos (get_or l.reds j 0)) around) in
    let all = accepted l (length entry) said.passed offsets (length_list_below (signals l) g) less in
    let found : band_numbers (answered (Ok tt) (measured_of s offsets)) ≡ band_numbers (measurement_of l offsets) = ap (λ v. band_numbers (answered v (measured_of s offsets))) (sym all) in
    subst (λ n. (n.code ≡ 0) × (p.outbound ≤ n.outbound.width + 19) × (p.inbound ≤ n.inbound.width + 19)) found
    (refl, omega (arith, kept.loses.outbound_short, out), omega (arith, kept.loses.inbound_short, back))
