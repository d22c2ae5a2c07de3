-- Laws at rounded times that go beyond what a reply needs, of every street that the checks pass: two bands that are both open make 2B at most; under offsets of the method's form both
-- directions are equally wide, whatever the phases; and beside a band of any width w, asked for or not, no offsets leave more than 2B - w. Assumes nothing.
use Rattle.std.specs.Prelude.{Ok}
use Prim.Native.Nat.{ℕ, ◌+◌, ◌*◌, ◌≤◌, ◌<◌}
use mathlib.Core.Path.{◌≡◌, refl}
use mathlib.Core.Bool.{true}
use mathlib.Core.Logic.{◌⊎◌}
use native.Mathlib.Omega.{arith}
use native.Mathlib.Nat.{le_antisymm}
use lib.IntN.{pos, ◌+ℤ◌}
use Rattle.circle.specs.Signed.{leℤ}
use Rattle.circle.specs.Man.{man}
use Rattle.circle.specs.Method.{in_units, halves, t, t', B}
use Rattle.circle.specs.Bands.{width, outbound_way, inbound_way}
use Rattle.circle.specs.Moved.{other_width}
use Rattle.circle.proofs.Stretches.{Patterned, likes, offset_turns, proper_way}
use Rattle.circle.proofs.Bands.{bound_signed}
use Rattle.street.specs.Lists.{Lists}
use Rattle.street.specs.Checks.{plan_checks}
use Rattle.street.specs.Streets.{timed}
use Rattle.promises.proofs.Streets.Passing.{fit, bounded, rising}
use Rattle.promises.proofs.Streets.Directions.{near_rounded}
use Rattle.promises.proofs.Bands.Widths.{width_passes, as_wide}
use Rattle.promises.proofs.Kept.{rest}

module _ (l : Lists) (room : ℕ) (passed : plan_checks l room ≡ (Ok tt)) where
  pub together_twice_B :
      (f : ℕ → ℕ) → let v = width (outbound_way (timed l) f) in let v' = width (inbound_way (timed l) f) in
      1 ≤ v → 1 ≤ v' → leℤ (pos (v + v')) (B (timed l) +ℤ B (timed l)) ≡ true
  together_twice_B f p q =
      let s = timed l in
      let ok = fit l room passed in
      let (x, out) = width_passes (outbound_way s f) (proper_way s f ok) p in
      let (y, back) = width_passes (inbound_way s f) (proper_way s f ok) q in
      bound_signed s ok (bounded l room passed) f x y _ _ out back

  pub mirrored :
      (c : ℕ) (e f : ℕ → ℕ) → let s = timed l in
      ((j : ℕ) → j < s.signals → (e j ≡ 0) ⊎ (e j ≡ s.cycle)) →
      ((j : ℕ) → j < s.signals → f j ≡ man (halves s) (t s c j +ℤ t' s c j +ℤ pos (e j))) →
      width (outbound_way s f) ≡ width (inbound_way s f)
  mirrored c e f either centre =
      let s = timed l in
      let ok = fit l room passed in
      let around : 0 < 2 * s.cycle = omega (arith, ok.turns) in
      let pattern : Patterned s c e f = record { either = either; centre = λ j h. offset_turns s c j (e j) (f j) around (centre j h) } in
      let like = likes s ok.turns (rising l room passed) c e f pattern in
      le_antisymm (as_wide s ok f like.0) (as_wide s ok f like.1)

  -- in whole halves (N = 1) and in every finer unit
  pub none_beside :
      (N w : ℕ) (f : ℕ → ℕ) → 0 < N → 1 ≤ w → let s = in_units N (timed l) in
      (N * w ≤ width (outbound_way s f) → width (inbound_way s f) ≤ N * other_width (timed l) w)
      × (N * w ≤ width (inbound_way s f) → width (outbound_way s f) ≤ N * other_width (timed l) w)
  none_beside N w f fine some = rest l room passed N 0 (near_rounded l room passed N fine) refl w some f
