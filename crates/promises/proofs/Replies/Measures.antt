-- The measure of the offsets that a plan leaves: they are instants of the cycle, so that no check refuses them, and the widths found are those of the plan's named bands. The offsets enter
-- through the lent list's first entries. Assumes nothing.
use Rattle.std.specs.Prelude.{Ok}
use Prim.Native.Nat.{ℕ, ◌*◌, ◌<◌}
use mathlib.Core.Path.{◌≡◌, refl, sym, ap, ap₂, subst, ◌∙◌}
use mathlib.Core.List.{List}
use native.Mathlib.Omega.{arith}
use lib.ListN.{length, take, get_or}
use lib.Seq.{get_or-take, length-take-le}
use borrow.Author.Tests.{lt-leb}
use Rattle.circle.proofs.Numbers.{first_nowhere}
use Rattle.street.specs.Lists.{Lists, signals}
use Rattle.street.specs.Checks.{plan_checks, or_next, fault_at}
use Rattle.street.specs.Streets.{timed}
use Rattle.street.specs.declared.Code.TheVariants.{Offset}
use Rattle.street.proofs.Passed.{enough_room}
use Rattle.widths.specs.Moved.{shift_of, outbound_width, inbound_width}
use Rattle.plans.proofs.Unique.{offsets_below}
use Rattle.bands.specs.Measure.{bad_offset, offset_check, measure_checks, measured_of, measurement_of, band_numbers}
use Rattle.street.specs.Verdicts.{answered}
use Rattle.bands.proofs.CheckLaws.{checks_full}
use Rattle.promises.specs.Measures.{MeasureAgrees}
use Rattle.promises.proofs.Streets.Passing.{fit, bounded, rising}
use Rattle.promises.proofs.Bands.Widths.{bands_measured}
use Rattle.promises.proofs.Kept.{Follows, plan_bands}
use Rattle.promises.proofs.Replies.Calls.{reply_told}

module _ (l : Lists) (room : ℕ) (passed : plan_checks l room ≡ (Ok tt)) (offsets : List ℕ) (count : length offsets ≡ signals l) (less : (j : ℕ) → j < signals l → get_or offsets j 0 < 2 * l.cycle) where
  -- offsets on the cycle, whatever they are: their check passes
  in_cycle : offset_check l.cycle offsets ≡ (Ok tt)
  unfolding offset_check
  in_cycle =
      ap (fault_at Offset)
      (first_nowhere (length offsets) (bad_offset l.cycle offsets)
      (λ j h. lt-leb (2 * l.cycle) (get_or offsets j 0) (less j (omega arith))))

  pub accepted : measure_checks l offsets ≡ (Ok tt)
  accepted = checks_full l offsets count ∙ ap₂ or_next (enough_room l room (signals l) passed (omega arith)) in_cycle

pub measure_agrees : MeasureAgrees
measure_agrees asked l entry exit r call code =
    let s = timed l in
    let n = signals l in
    let room = length entry in
    let shift = shift_of asked s in
    let told = reply_told asked l entry exit r call code in
    let passed = told.passed in
    let ok = fit l room passed in
    let rise = rising l room passed in
    let v = outbound_width shift s in
    let v' = inbound_width shift s in
    let offsets = take n exit in
    let f : ℕ → ℕ = λ j. get_or offsets j 0 in
    let same : Follows s shift f = λ j h. get_or-take n exit j 0 h ∙ told.same j h in
    let named = plan_bands s ok rise f shift same told.range in
    let less : (j : ℕ) → j < n → f j < 2 * l.cycle = λ j h. omega (arith, offsets_below l room passed shift j, same j h) in
    let all = accepted l room passed offsets (length-take-le n exit told.long) less in
    let found : band_numbers (answered (Ok tt) (measured_of s offsets)) ≡ band_numbers (measurement_of l offsets) = ap (λ c. band_numbers (answered c (measured_of s offsets))) (sym all) in
    let is = bands_measured s ok (bounded l room passed) f v v' named in
    subst (λ p. let n = band_numbers (measurement_of l offsets) in (n.code ≡ 0) × (n.outbound.width ≡ p.outbound) × (n.inbound.width ≡ p.inbound)) told.numbers
    (subst (λ n. (n.code ≡ 0) × (n.outbound.width ≡ v) × (n.inbound.width ≡ v')) found (refl, is.0, is.1))
