-- What every plan keeps. Offsets that agree with a plan's at every signal have its named bands, as wide as it reports; so along lags near the rounded ones they keep all that a plan promises,
-- with the plan's own numbers. A plan that moves nothing lowers every offset by 0, so that it is the equal plan; and what platoons ask for is in range. Assumes nothing.
use Rattle.std.specs.Prelude.{Ok}
use Prim.Native.Nat.{ℕ, ◌+◌, ◌-◌, ◌*◌, ◌≤◌, ◌<◌}
use mathlib.Core.Path.{◌≡◌, refl, subst, ◌∙◌}
use mathlib.Core.Bool.{true}
use native.Mathlib.Omega.{arith}
use native.Mathlib.Decide.{dec_lt, ℕ_discrete}
use Rattle.circle.specs.Method.{Timed, reference, offset, equal_width, red_end, red_start}
use Rattle.circle.specs.Moved.{in_range, other_width, platoon_width}
use Rattle.circle.proofs.Formulas.{Fit, asked, reference_lt, platoons_range}
use Rattle.circle.proofs.Stretches.{Rising}
use Rattle.circle.proofs.Bands.{Bands, equal_bands, outbound_bands, inbound_bands}
use Rattle.street.specs.Lists.{Lists}
use Rattle.street.specs.Checks.{plan_checks}
use Rattle.street.specs.Streets.{m, timed}
use Rattle.widths.specs.Moved.{platoon_shift, outbound_width, inbound_width}
use Rattle.widths.proofs.WidthLaws.{favours_neither, favours_outbound, favours_inbound}
use Rattle.widths.specs.declared.Shift.{Shift}
use Rattle.widths.specs.declared.Shift.TheVariants.{Unmoved, Outbound, Inbound}
use Rattle.offsets.specs.Moved.{moved_offset}
use Rattle.offsets.proofs.MovedLaws.{unmoved_offset}
use Rattle.plans.specs.Requests.{moved_plan}
use Rattle.promises.specs.Replies.{InsideClear, NoneBetter, Kept}
use Rattle.promises.proofs.Streets.Passing.{fit, rising}
use Rattle.promises.proofs.Streets.Directions.{way_in, Near, ways_by}
use Rattle.promises.proofs.Bands.Agreed.{bands_same}
use Rattle.promises.proofs.Kept.Bounds.{none-wider, short_out, short_back, clear_out, clear_back, rest, filled}

-- a shift to a width in range; the equal plan asks for none
abbrev pub InRange : Timed → Shift → Type 0
InRange s Unmoved = Unit
InRange s (Outbound w) = in_range s w ≡ true
InRange s (Inbound w) = in_range s w ≡ true

-- offsets g that are a plan's at every signal
abbrev pub Follows : Timed → Shift → (ℕ → ℕ) → Type 0
Follows s shift g = (j : ℕ) → j < s.signals → g j ≡ moved_offset shift s j

module _ (s : Timed) (ok : Fit s) (rise : Rising s) where
  module _ (g : ℕ → ℕ) where
    -- where nothing is moved they are the method's own
    own_offset : Follows s Unmoved g → (j : ℕ) → j < s.signals → g j ≡ offset s (reference s) j
    own_offset same j l = same j l ∙ unmoved_offset s j ok.turns

    -- such offsets have the plan's named bands
    pub plan_bands : (shift : Shift) → Follows s shift g → InRange s shift → Bands s g (outbound_width shift s) (inbound_width shift s)
    plan_bands Unmoved same range =
        bands_same s (offset s (reference s)) g (own_offset same) ok.some (equal_width s) (equal_width s) (equal_bands s ok rise)
    plan_bands (Outbound w) same range =
        bands_same s (moved_offset (Outbound w) s) g same ok.some w (other_width s w) (outbound_bands s ok rise w range)
    plan_bands (Inbound w) same range =
        bands_same s (moved_offset (Inbound w) s) g same ok.some (other_width s w) w (inbound_bands s ok rise w range)

  -- what platoons ask for is in range, so code 9 never comes from them, and what is promised of a shift in range is promised of platoon plans
  pub platoons_in_range : (P Q : ℕ) → InRange s (platoon_shift s P Q)
  platoons_in_range P Q = go (ℕ_discrete P Q) (dec_lt Q P)
    where
      go : Dec (P ≡ Q) → Dec (Q < P) → InRange s (platoon_shift s P Q)
      go (yes e) d = subst (InRange s) (favours_neither s P Q e) tt
      go (no n) (yes l) =
          subst (InRange s) (favours_outbound s P Q (platoon_width s P (P + Q)) n l refl) (platoons_range s ok P (P + Q) (omega arith) (omega arith))
      go (no n) (no m) =
          let l : P ≤ Q = omega arith in
          let k : P < Q = omega arith in
          subst (InRange s) (favours_inbound s P Q (platoon_width s Q (P + Q)) n l refl) (platoons_range s ok Q (P + Q) (omega arith) (omega arith))

module _ (l : Lists) (room : ℕ) (passed : plan_checks l room ≡ (Ok tt)) (N r : ℕ) {out back : ℕ → ℕ} (near : Near l N r out back) where
  -- no offsets do better than a shift in range
  none_better : (shift : Shift) → InRange (timed l) shift → NoneBetter shift (ways_by l N out back) (outbound_width shift (timed l)) (inbound_width shift (timed l)) r
  none_better Unmoved range = none-wider l room passed N r near
  none_better (Outbound w) range = λ none f. (rest l room passed N r near none w (asked (timed l) (fit l room passed) w range).some f).0
  none_better (Inbound w) range = λ none f. (rest l room passed N r near none w (asked (timed l) (fit l room passed) w range).some f).1

  -- all that a plan keeps, under offsets that follow it: the reference is counted from 1 in its numbers, and its red is where the offsets have it
  pub plan_keeps : (shift : Shift) (g : ℕ → ℕ) → Follows (timed l) shift g → InRange (timed l) shift → Kept shift (ways_by l N out back) g (moved_plan shift (timed l) (m l)) r
  plan_keeps shift g same range =
      let s = timed l in
      let c = reference s in
      let ok = fit l room passed in
      let v = outbound_width shift s in
      let v' = inbound_width shift s in
      let named = plan_bands s ok (rising l room passed) g shift same range in
      let own = same c (reference_lt s ok.some) in
      let from-1 : c ≡ c + 1 - 1 = omega arith in
      let to = way_in l N (λ j. N * g j) out in
      let fro = way_in l N (λ j. N * g j) back in
      record {
        outbound_clear = subst (λ (k : ℕ). InsideClear N to k (red_end s c (moved_offset shift s c)) 0 v r) from-1 (subst (λ (z : ℕ). InsideClear N to c (red_end s c z) 0 v r) own (clear_out l room passed N r near g v v' named));
        inbound_clear = subst (λ (k : ℕ). InsideClear N fro k (red_start s c (moved_offset shift s c)) v' v' r) from-1 (subst (λ (z : ℕ). InsideClear N fro c (red_start s c z) v' v' r) own (clear_back l room passed N r near g v v' named));
        outbound_short = short_out l room passed N r near g v v' named;
        inbound_short = short_back l room passed N r near g v v' named;
        widths = λ none. filled l room passed N r near none g v v' named;
        none_better = none_better shift range;
      }
