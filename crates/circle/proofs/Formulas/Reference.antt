-- What the reference and its phases attain. Where some signal has a red, the reference has one and its raised b is B; the phase of each signal with a red has the larger of
-- the pair's two widths, so its u under that phase leaves at least B beside its red. The reference itself has phase 0 and offset 0, and so it has where it rests, which is where
-- every signal does. Assumes nothing.
use Prim.Native.Nat.{ℕ, zero, suc, ◌+◌, ◌-◌, ◌*◌, ◌≤◌, ◌<◌}
use mathlib.Core.Path.{◌≡◌, ap, ap₂, subst, ◌∙◌}
use mathlib.Core.Bool.{cond}
use native.Mathlib.Omega.{arith}
use native.Mathlib.Decide.{dec_le, dec_lt}
use lib.IntN.{pos, ◌-ℤ◌}
use lib.Dec.{leb}
use borrow.Author.Tests.{le-leb, lt-leb}
use Rattle.circle.specs.Signed.{leℤ}
use Rattle.circle.specs.Man.{man}
use Rattle.circle.specs.Method.{Timed, halves, u, pair_width, reference, phase, offset}
use Rattle.circle.proofs.Numbers.Signed.{le_sub}
use Rattle.circle.proofs.Numbers.Man.{Turns, man_lt, man_turns}
use Rattle.circle.proofs.Numbers.Over.{max_below, max_ge}
use Rattle.circle.proofs.Formulas.Method.{u_is, u_range, raised-width, offset_is}
use Rattle.circle.proofs.Formulas.Raised.{Fit, raised, larger_raised, b⁺, b⁺_le, b⁺_at, b⁺_some, rank, rank_red, ranked, B⁺, B_ranked, none_ranked, with_red, at_rest, low, reference_is}

-- the first index that attains the greatest
pub record First (n : ℕ) (g : ℕ → ℕ) (c : ℕ) : Type 0 where
  pub below : c < n
  pub best : g c ≡ max_below n g
  pub before : (k : ℕ) → k < c → g k < max_below n g

first_best : (n : ℕ) (g : ℕ → ℕ) → 0 < n → (c : ℕ) × First n g c
unfolding max_below
first_best zero g l = absurd (omega arith)
first_best (suc zero) g l =
    (0, record { below = omega arith; best = omega arith; before = λ k h. absurd (omega arith) })
first_best (suc (suc n)) g l = go (dec_le (g (suc n)) (max_below (suc n) g)) (first_best (suc n) g (omega arith))
  where
    go : Dec (g (suc n) ≤ max_below (suc n) g) → ((c : ℕ) × First (suc n) g c) → (c : ℕ) × First (suc (suc n)) g c
    go (yes h) (c, m) =
        (c, record { below = omega (arith, m.below); best = omega (arith, m.best); before = λ k i. omega (arith, m.before k i) })
    go (no h) m =
        (suc n, record { below = omega arith; best = omega arith; before = λ k i. omega (arith, max_ge (suc n) g k i) })

-- from u back to what it is the remainder of
pub u_turns : (s : Timed) (i j e : ℕ) → 0 < halves s → Turns (halves s) (halves s - u s i j e + (s.red j + s.outbound i + s.inbound i + e)) (s.red i + s.outbound j + s.inbound j)
u_turns s i j e h =
    let a = s.red i + s.outbound j + s.inbound j in
    let d = s.red j + s.outbound i + s.inbound i + e in
    let c = man_turns (halves s) a d h in
    let less = man_lt (halves s) (pos a -ℤ pos d) h in
    let same = u_is s i j e (man (halves s) (pos a -ℤ pos d)) less c in
    record { p = c.p; q = c.q; eq = omega (arith, c.eq, same, less) }

module _ (s : Timed) (fit : Fit s) where
  pub reference-first : First s.signals (rank s) (reference s)
  reference-first =
      let (c, m) = first_best s.signals (rank s) fit.some in
      subst (First s.signals (rank s)) (reference_is s fit c m.below m.best m.before) m

  -- where a signal has a red the reference has one, with B for its b
  pub reference_red : (j : ℕ) → j < s.signals → 0 < s.red j → (0 < s.red (reference s)) × (b⁺ s (reference s) ≡ B⁺ s)
  reference_red j l red =
      let c = reference s in
      let some : 0 < max_below s.signals (rank s) = omega (arith, max_ge s.signals (rank s) j l, rank_red s j red, b⁺_some s fit j) in
      let own = ranked s c (omega (arith, reference-first.best)) in
      (own, omega (arith, reference-first.best, rank_red s c own, B_ranked s fit some))

  -- and where the reference rests no signal has a red, and B is the cycle
  pub reference_rests : (0 < s.red (reference s) → ⊥) → (B⁺ s ≡ 4 * s.cycle) × ((j : ℕ) → j < s.signals → 0 < s.red j → ⊥)
  reference_rests none = none_ranked s fit (λ some. none (ranked s (reference s) (omega (arith, reference-first.best))))

  pub B⁺_le : B⁺ s ≤ 4 * s.cycle
  B⁺_le = go (dec_lt 0 (s.red (reference s)))
    where
      go : Dec (0 < s.red (reference s)) → B⁺ s ≤ 4 * s.cycle
      go (yes red) = omega (arith, (reference_red (reference s) reference-first.below red).1, b⁺_le s (reference s))
      go (no none) = omega (arith, (reference_rests none).0)

  -- which of the two widths the phase goes by
  pub phase_test : (i j : ℕ) → j < s.signals → leℤ (pair_width s i j s.cycle) (pair_width s i j 0) ≡ leb (raised s i j s.cycle) (raised s i j 0)
  phase_test i j l =
      ap₂ leℤ (raised-width s i j s.cycle (low s fit j l)) (raised-width s i j 0 (low s fit j l))
      ∙ le_sub (raised s i j s.cycle) (raised s i j 0) (halves s)

  -- the phase of a signal with a red, by that test, and of one that rests
  pub phase_red : (i j : ℕ) → j < s.signals → 0 < s.red j → phase s i j ≡ cond (leb (raised s i j s.cycle) (raised s i j 0)) 0 s.cycle
  unfolding phase
  phase_red i j l red = ap₂ (λ t p. cond t (cond p 0 s.cycle) 0) (with_red s j red) (phase_test i j l)

  pub phase_rest : (i j : ℕ) → (0 < s.red j → ⊥) → phase s i j ≡ 0
  unfolding phase
  phase_rest i j none = ap (λ t. cond t (cond (leℤ (pair_width s i j s.cycle) (pair_width s i j 0)) 0 s.cycle) 0) (at_rest s j none)

  phase_larger : (i j : ℕ) → j < s.signals → 0 < s.red j → raised s i j (phase s i j) ≡ larger_raised s i j
  phase_larger i j l red = ap (raised s i j) (phase_red i j l red) ∙ go (dec_le (raised s i j s.cycle) (raised s i j 0))
    where
      go : Dec (raised s i j s.cycle ≤ raised s i j 0) → raised s i j (cond (leb (raised s i j s.cycle) (raised s i j 0)) 0 s.cycle) ≡ larger_raised s i j
      go (yes h) =
          let e : raised s i j 0 ≡ larger_raised s i j = omega arith in
          ap (λ p. raised s i j (cond p 0 s.cycle)) (le-leb (raised s i j s.cycle) (raised s i j 0) h) ∙ e
      go (no h) =
          let m : raised s i j 0 < raised s i j s.cycle = omega arith in
          let e : raised s i j s.cycle ≡ larger_raised s i j = omega arith in
          ap (λ p. raised s i j (cond p 0 s.cycle)) (lt-leb (raised s i j s.cycle) (raised s i j 0) m) ∙ e

  -- against the reference, under the chosen phase, every signal with a red leaves at least B beside it
  pub leaves : (j : ℕ) → j < s.signals → 0 < s.red j → B⁺ s + 2 * s.red j ≤ u s (reference s) j (phase s (reference s) j) + halves s
  leaves j l red =
      let c = reference s in
      omega (arith, (reference_red j l red).1, b⁺_at s c j l red, phase_larger c j l red, low s fit j l)

  -- a signal against itself
  pub phase_own : (c : ℕ) → c < s.signals → phase s c c ≡ 0
  phase_own c l = go (dec_lt 0 (s.red c))
    where
      go : Dec (0 < s.red c) → phase s c c ≡ 0
      go (no none) = phase_rest c c none
      go (yes red) =
          let some : 0 < s.cycle = fit.turns in
          let touches = u_is s c c 0 0 (omega arith) (record { p = 0; q = 0; eq = omega arith }) in
          let range = u_range s c c s.cycle some in
          let less : raised s c c s.cycle ≤ raised s c c 0 = omega arith in
          phase_red c c l red ∙ ap (λ p. cond p 0 s.cycle) (le-leb (raised s c c s.cycle) (raised s c c 0) less)

  pub offset_own : (c : ℕ) → c < s.signals → offset s c c ≡ 0
  offset_own c l = offset_is s c c 0 (omega (arith, fit.turns)) (record { p = 0; q = 0; eq = omega (arith, phase_own c l) })
