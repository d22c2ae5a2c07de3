-- Stretches by the time since each red ended. At one signal, k departures from an instant on meet no red exactly when the time since the red ended, k and the red's length fit
-- into one cycle: the departure at i is then that time and i past the red's end. A signal with no red blocks nothing. So the width is the greatest k for which some start
-- passes, and the band's start the smallest instant that passes for the width. Assumes nothing.
use Prim.Native.Nat.{ℕ, ◌+◌, ◌-◌, ◌/◌, ◌%◌, ◌≤◌, ◌<◌}
use mathlib.Core.Path.{◌≡◌, refl, ap}
use mathlib.Core.Bool.{true}
use native.Mathlib.Omega.{arith}
use native.Mathlib.Decide.{dec_lt, dec_le}
use native.Mathlib.Nat.{mod-lt, mod-add-div'}
use lib.IntN.{pos, ◌-ℤ◌}
use lib.Dec.{leb}
use borrow.Author.Tests.{le-leb, leb-true}
use Rattle.circle.specs.Man.{man}
use Rattle.circle.specs.Over.{first_below, index_of, all_below, some_below}
use Rattle.circle.specs.Method.{Timed}
use Rattle.circle.specs.Bands.{Way, way_through, clear, stretch, width, band_start}
use Rattle.circle.proofs.Numbers.Man.{Turns, man_lt, man_is, man_turns}
use Rattle.circle.proofs.Numbers.Over.{first_at}
use Rattle.circle.proofs.Formulas.Raised.{Fit}
use Rattle.circle.proofs.Stretches.Arcs.{since, Passes}
use Rattle.circle.proofs.Numbers.Tests.{Where, all_true, all_each, some_true, some_where, greatest_le, greatest_passes, greatest_ge, first_where}

-- what a way needs: a cycle to turn on, and no red longer than it
pub record Proper (w : Way) : Type 0 where
  pub turns : 0 < w.around
  pub fits : (j : ℕ) → j < w.signals → w.length j ≤ w.around

-- both ways through a street are such, under any lags
pub proper_way : {lag : ℕ → ℕ} (s : Timed) (f : ℕ → ℕ) → Fit s → Proper (way_through s f lag)
proper_way s f fit = record { turns = omega (arith, fit.turns); fits = λ j l. omega (arith, fit.goes j l) }

-- one signal, its red from s on for l, and a car there at a: the departure i later is clear where the working form holds
passed_clear : (M a s l k i b : ℕ) → man M (pos a -ℤ pos (s + l)) + k + l ≤ M → i < k → b ≡ a + i → l ≤ man M (pos b -ℤ pos s)
passed_clear M a s l k i b h lt e =
    let z = man M (pos a -ℤ pos (s + l)) in
    let some : 0 < M = omega arith in
    let c = man_turns M a (s + l) some in
    let small : z + l + i < M = omega arith in
    omega (arith, man_is M b s (z + l + i) small (record { p = c.p; q = c.q; eq = omega (arith, c.eq) }))

-- and the working form holds where all k are clear: else the first one past the limit, or the very first, is red
clear_passed : (M a s l k : ℕ) → 0 < M → 0 < l → l ≤ M → 1 ≤ k → ((i b : ℕ) → i < k → b ≡ a + i → l ≤ man M (pos b -ℤ pos s)) → man M (pos a -ℤ pos (s + l)) + k + l ≤ M
clear_passed M a s l k some red fits one each = settle (dec_le (man M (pos a -ℤ pos (s + l)) + k + l) M)
  where
    inside : M < man M (pos a -ℤ pos (s + l)) + k + l → Dec (man M (pos a -ℤ pos (s + l)) + l ≤ M) → ⊥
    inside long (yes in-time) =
        let z = man M (pos a -ℤ pos (s + l)) in
        let i : ℕ = M - (z + l) in
        let c = man_turns M a (s + l) some in
        let at_start : man M (pos (a + i) -ℤ pos s) ≡ 0 =
        man_is M (a + i) s 0 some (record { p = 1 + c.p; q = c.q; eq = omega (arith, c.eq) }) in
        omega (arith, at_start, each i (a + i) (omega arith) refl)
    inside long (no late) =
        let z = man M (pos a -ℤ pos (s + l)) in
        let c = man_turns M a (s + l) some in
        let less : z < M = man_lt M (pos a -ℤ pos (s + l)) some in
        let in-red : man M (pos a -ℤ pos s) ≡ z + l - M =
        man_is M a s (z + l - M) (omega arith) (record { p = 1 + c.p; q = c.q; eq = omega (arith, c.eq) }) in
        omega (arith, in-red, each 0 a (omega arith) (omega arith))

    settle : Dec (man M (pos a -ℤ pos (s + l)) + k + l ≤ M) → man M (pos a -ℤ pos (s + l)) + k + l ≤ M
    settle (yes h) = h
    settle (no n) = absurd (inside (omega arith) (dec_le (man M (pos a -ℤ pos (s + l)) + l) M))

-- the working form gives the stretch
pub passes_stretch : (w : Way) (x k : ℕ) → Passes w x k → stretch w x k ≡ true
unfolding stretch clear
passes_stretch w x k p =
    all_true k (λ i. clear w (x + i))
    (λ i li.
    all_true w.signals (λ j. leb (w.length j) (man w.around (pos (x + i + w.lag j) -ℤ pos (w.start j))))
    (λ j lj. le-leb (w.length j) (man w.around (pos (x + i + w.lag j) -ℤ pos (w.start j))) (one i li j lj (dec_lt 0 (w.length j)))))
  where
    one : (i : ℕ) → i < k → (j : ℕ) → j < w.signals → Dec (0 < w.length j) → w.length j ≤ man w.around (pos (x + i + w.lag j) -ℤ pos (w.start j))
    one i li j lj (yes red) =
        passed_clear w.around (x + w.lag j) (w.start j) (w.length j) k i (x + i + w.lag j) (p.each j lj red) li (omega arith)
    one i li j lj (no none) = omega arith

-- and a stretch from 1 up to the cycle gives the working form
pub stretch_passes : (w : Way) → Proper w → (x k : ℕ) → 1 ≤ k → k ≤ w.around → stretch w x k ≡ true → Passes w x k
unfolding stretch clear
stretch_passes w proper x k one most e =
    record {
      most = most;
      each =
          λ j lj red.
          clear_passed w.around (x + w.lag j) (w.start j) (w.length j) k proper.turns red (proper.fits j lj) one
          (λ i b li eb.
          let all = all_each k (λ y. clear w (x + y)) e i li in
          let here = leb-true (w.length j) (man w.around (pos (x + i + w.lag j) -ℤ pos (w.start j))) (all_each w.signals (λ q. leb (w.length q) (man w.around (pos (x + i + w.lag q) -ℤ pos (w.start q)))) all j lj) in
          let same : x + i + w.lag j ≡ b = omega arith in
          omega (arith, here, ap (λ (y : ℕ). man w.around (pos y -ℤ pos (w.start j))) same));
    }

-- whole turns of the start change nothing
pub since_turns : (w : Way) → Proper w → (x y j : ℕ) → Turns w.around x y → since w x j ≡ since w y j
since_turns w proper x y j t =
    let c = man_turns w.around (y + w.lag j) (w.start j + w.length j) proper.turns in
    man_is w.around (x + w.lag j) (w.start j + w.length j) (since w y j) (man_lt w.around (pos (y + w.lag j) -ℤ pos (w.start j + w.length j)) proper.turns)
    (record { p = c.p + t.q; q = c.q + t.p; eq = omega (arith, c.eq, t.eq) })

-- the width is at least the length of any stretch
pub width_ge : (w : Way) → Proper w → (x k : ℕ) → Passes w x k → k ≤ width w
unfolding width
width_ge w proper x k p =
    let M = w.around in
    let y : ℕ = x % M in
    let turn : Turns M y x = record { p = x / M; q = 0; eq = omega (arith, mod-add-div' x M) } in
    let p' : Passes w y k =
    record { most = p.most; each = λ j lj red. omega (arith, since_turns w proper y x j turn, p.each j lj red) } in
    greatest_ge M (λ v. some_below M (λ z. stretch w z v)) k p.most
    (some_true M (λ z. stretch w z k) y (mod-lt x proper.turns) (passes_stretch w y k p'))

pub width_le : (w : Way) → width w ≤ w.around
unfolding width
width_le w = greatest_le w.around (λ v. some_below w.around (λ z. stretch w z v))

-- where the band starts: on the cycle, with a stretch of the width, and with none sooner
pub record Starts (w : Way) (x : ℕ) : Type 0 where
  pub below : x < w.around
  pub passes : Passes w x (width w)
  pub least : (y : ℕ) → y < w.around → Passes w y (width w) → x ≤ y

-- some start attains the width
attained : (w : Way) → 1 ≤ width w → Where w.around (λ z. stretch w z (width w)) true
unfolding width
attained w one =
    some_where w.around (λ z. stretch w z (width w))
    (greatest_passes w.around (λ v. some_below w.around (λ z. stretch w z v)) one)

pub band_starts : (w : Way) → Proper w → 1 ≤ width w → Starts w (band_start w)
unfolding band_start
band_starts w proper one =
    let found = first_where w.around (λ z. stretch w z (width w)) (attained w one) in
    record {
      below = found.below;
      passes = stretch_passes w proper (index_of (first_below w.around (λ z. stretch w z (width w)))) (width w) one (width_le w) found.passes;
      least = λ y l p. found.least y l (passes_stretch w y (width w) p);
    }

-- a width of 0 has start 0
pub start_none : (w : Way) → Proper w → width w ≡ 0 → band_start w ≡ 0
unfolding band_start stretch all_below
start_none w proper none =
    ap index_of
    (first_at w.around (λ z. stretch w z (width w)) 0 proper.turns (λ k l. absurd (omega arith)) (ap (stretch w 0) none))
