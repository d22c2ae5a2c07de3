-- What is kept along lags that stay within r halves of the rounded ones. Two bands that are both wider than N times r leave stretches at rounded times, N times r narrower at most, and two such
-- stretches together never exceed 2B, counted in the fine unit: so the narrower band is at most B and r. The other way, named bands at rounded times leave bands that fall short by r at most;
-- and of them all but r halves at each end is clear, counted at the reference. With r 0 every band is a stretch at rounded times and back: beside a band of w nothing wider than 2B - w is
-- left, whatever the offsets, and a plan's named bands are the bands, since they make up 2B as stretches of signed length. Assumes nothing.
use Rattle.std.specs.Prelude.{Ok}
use Prim.Native.Nat.{ℕ, ◌+◌, ◌-◌, ◌*◌, ◌≤◌, ◌<◌, min}
use mathlib.Core.Path.{◌≡◌, ap, subst}
use native.Mathlib.Omega.{arith}
use native.Mathlib.Decide.{dec_le}
use native.Mathlib.Nat.{mul-le-mul_left}
use Rattle.circle.specs.Method.{in_units, halves, reference, equal_width, red_end, red_start}
use Rattle.circle.specs.Bands.{width, outbound_way, inbound_way}
use Rattle.circle.specs.Moved.{other_width}
use Rattle.circle.proofs.Stretches.{Passes, spans}
use Rattle.circle.proofs.Formulas.{Fit, reference-first, B⁺, equal_width_lem}
use Rattle.circle.proofs.Bands.{Bands, beside, longest_both, fit_scaled, B⁺_scaled, other_scaled, finer_spans, outbound_finer, inbound_finer}
use Rattle.street.specs.Lists.{Lists}
use Rattle.street.specs.Checks.{plan_checks}
use Rattle.street.specs.Streets.{timed}
use Rattle.widths.specs.declared.Shift.TheVariants.{Unmoved}
use Rattle.promises.specs.Replies.{InsideClear, NoneBetter}
use Rattle.promises.proofs.Streets.Passing.{fit, bounded_fine}
use Rattle.promises.proofs.Streets.Directions.{way_in, Near, ways_by}
use Rattle.promises.proofs.Bands.Stretched.{leaves, all_left, named_short, named_inside, named_exact}

module _ (l : Lists) (room : ℕ) (passed : plan_checks l room ≡ (Ok tt)) (N r : ℕ) {out back : ℕ → ℕ} (near : Near l N r out back) where
  fit_fine : Fit (in_units N (timed l))
  fit_fine = fit_scaled N (timed l) near.some (fit l room passed)

  -- two stretches at rounded times in the fine unit never exceed 2B together, whatever the offsets
  together :
      (f : ℕ → ℕ) (x y v v' : ℕ) → Passes (outbound_way (in_units N (timed l)) f) x v → Passes (inbound_way (in_units N (timed l)) f) y v' →
      v + v' + 2 * (N * halves (timed l)) ≤ 2 * (N * B⁺ (timed l))
  together f x y v v' p q =
      let most = bounded_fine l room passed N near.some f x y v v' 0 0 (spans p) (spans q) in
      omega (arith, B⁺_scaled N (timed l) near.some (fit l room passed))

  -- B, in the fine unit, is at most the equal width
  B_most : N * B⁺ (timed l) ≤ N * equal_width (timed l) + N * halves (timed l)
  B_most =
      let least : B⁺ (timed l) ≤ equal_width (timed l) + halves (timed l) = omega (arith, equal_width_lem (timed l) (fit l room passed)) in
      omega (arith, mul-le-mul_left N least)

  pub none-wider : NoneBetter Unmoved (ways_by l N out back) (equal_width (timed l)) (equal_width (timed l)) r
  none-wider f = go (dec_le (width (way_in l N f out)) (N * r)) (dec_le (width (way_in l N f back)) (N * r))
    where
      go : Dec (width (way_in l N f out) ≤ N * r) → Dec (width (way_in l N f back) ≤ N * r) → min (width (way_in l N f out)) (width (way_in l N f back)) ≤ N * (equal_width (timed l) + r)
      go (yes h) either = omega arith
      go (no h) (yes k) = omega arith
      go (no h) (no k) =
          let v = width (way_in l N f out) in
          let v' = width (way_in l N f back) in
          let (x, p) = leaves l room passed N r near.some near.outwards f (omega arith) in
          let (y, q) = leaves l room passed N r near.some near.inwards f (omega arith) in
          let most = together f x y (v - N * r) (v' - N * r) p q in
          omega (arith, B_most)

  -- offsets with named bands of v and v' at rounded times: the bands along the near lags fall short of them by r halves at most, and what is left of them is clear
  module _ (f : ℕ → ℕ) (v v' : ℕ) (named : Bands (timed l) f v v') where
    pub short_out : N * v ≤ width (way_in l N (λ j. N * f j) out) + N * r
    short_out =
        let c = reference (timed l) in
        named_short l room passed N r near.some near.outwards f c (red_end (timed l) c (f c)) 0 v named.out

    pub short_back : N * v' ≤ width (way_in l N (λ j. N * f j) back) + N * r
    short_back =
        let c = reference (timed l) in
        named_short l room passed N r near.some near.inwards f c (red_start (timed l) c (f c)) v' v' named.back

    pub clear_out : let c = reference (timed l) in InsideClear N (way_in l N (λ j. N * f j) out) c (red_end (timed l) c (f c)) 0 v r
    clear_out =
        let c = reference (timed l) in
        named_inside l room passed N r near.some near.outwards f c (red_end (timed l) c (f c)) 0 v (reference-first (timed l) (fit l room passed)).below named.out

    pub clear_back : let c = reference (timed l) in InsideClear N (way_in l N (λ j. N * f j) back) c (red_start (timed l) c (f c)) v' v' r
    clear_back =
        let c = reference (timed l) in
        named_inside l room passed N r near.some near.inwards f c (red_start (timed l) c (f c)) v' v' (reference-first (timed l) (fit l room passed)).below named.back

  -- with nothing lost
  module _ (none : r ≡ 0) where
    nothing : N * r ≡ 0
    nothing = omega (arith, ap (λ (z : ℕ). N * z) none)

    -- beside a band of w or more, either way
    pub rest :
        (w : ℕ) → 1 ≤ w → (f : ℕ → ℕ) →
        (N * w ≤ width (way_in l N f out) → width (way_in l N f back) ≤ N * other_width (timed l) w) × (N * w ≤ width (way_in l N f back) → width (way_in l N f out) ≤ N * other_width (timed l) w)
    rest w some f =
        let s = timed l in
        let v = width (way_in l N f out) in
        let v' = width (way_in l N f back) in
        subst (λ (z : ℕ). (N * w ≤ v → v' ≤ z) × (N * w ≤ v' → v ≤ z)) (other_scaled N s near.some (fit l room passed) w)
        (beside (in_units N s) fit_fine (bounded_fine l room passed N near.some) f (N * w) v v'
        (omega (arith, mul-le-mul_left N some, near.some))
        (all_left l room passed N r near.some near.outwards nothing f)
        (all_left l room passed N r near.some near.inwards nothing f))

    -- a plan's named bands are the bands: in the fine unit too no departures pass beyond them
    pub filled :
        (f : ℕ → ℕ) (v v' : ℕ) → Bands (timed l) f v v' →
        (width (way_in l N (λ j. N * f j) out) ≡ N * v) × (width (way_in l N (λ j. N * f j) back) ≡ N * v')
    filled f v v' named =
        let s = timed l in
        let c = reference s in
        let z = in_units N s in
        let f⁺ : ℕ → ℕ = λ j. N * f j in
        let around : 0 < 2 * (N * s.cycle) = omega (arith, fit_fine.turns) in
        let turn = (fit l room passed).turns in
        let to = finer_spans N (outbound_way s f) (outbound_way z f⁺) (outbound_finer N s f near.some turn) around named.x v named.lack named.out_spans in
        let fro = finer_spans N (inbound_way s f) (inbound_way z f⁺) (inbound_finer N s f near.some turn) around named.y v' named.lack' named.back_spans in
        let all : N * v + N * v' + 2 * halves z ≡ 2 * B⁺ z + (N * named.lack + N * named.lack') = omega (arith, ap (λ (k : ℕ). N * k) named.all, B⁺_scaled N s near.some (fit l room passed)) in
        let most = longest_both z (bounded_fine l room passed N near.some) f⁺ (N * named.x) (N * named.y) (N * v) (N * v') (N * named.lack) (N * named.lack') to fro all in (
          named_exact l room passed N r near.some near.outwards f nothing c (red_end s c (f c)) 0 v named.out most.0,
          named_exact l room passed N r near.some near.inwards f nothing c (red_start s c (f c)) v' v' named.back most.1,
        )
