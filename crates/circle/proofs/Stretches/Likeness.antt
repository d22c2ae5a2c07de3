-- Two ways of one cycle on which the same departures are clear have the same band: stretches, the width and its start go by the cycle and the clear instants alone. And what
-- is clear goes by each signal's red length and how far past its red's start a car comes by. Two streets that agree below their count are alike in both directions. Assumes
-- nothing.
use Prim.Native.Nat.{ℕ, ◌+◌, ◌-◌, ◌*◌, ◌<◌}
use mathlib.Core.Path.{◌≡◌, ap, ap₂, ◌∙◌}
use mathlib.Core.Bool.{not}
use native.Mathlib.Omega.{arith}
use lib.IntN.{pos, ◌-ℤ◌}
use lib.Dec.{leb}
use Rattle.circle.specs.Man.{man}
use Rattle.circle.specs.Over.{first_below, index_of, all_below, some_below}
use Rattle.circle.specs.Method.{Timed}
use Rattle.circle.specs.Bands.{Way, greatest_up_to, clear, stretch, width, band_start, outbound_way, inbound_way}
use Rattle.circle.proofs.Numbers.Over.{first_ext}
use Rattle.circle.proofs.Formulas.Method.{Agree, red_start_agree}
use Rattle.circle.proofs.Stretches.Since.{along}
use Rattle.circle.proofs.Numbers.Tests.{all_ext, greatest_up_to_ext}

-- how far past the start of signal j's red the departure at x comes by, round the cycle
abbrev pub past : Way → ℕ → ℕ → ℕ
past w x j = man w.around (pos (x + w.lag j) -ℤ pos (w.start j))

pub record Alike (v w : Way) : Type 0 where
  pub around : v.around ≡ w.around
  pub signals : v.signals ≡ w.signals
  pub length : (j : ℕ) → j < v.signals → v.length j ≡ w.length j
  pub past : (x j : ℕ) → j < v.signals → past v x j ≡ past w x j

module _ (v w : Way) (same : Alike v w) where
  clear_alike : (x : ℕ) → clear v x ≡ clear w x
  unfolding clear
  clear_alike x =
      all_ext v.signals (λ j. leb (v.length j) (past v x j)) (λ j. leb (w.length j) (past w x j))
      (λ j l. ap₂ leb (same.length j l) (same.past x j l))
      ∙ ap (λ (n : ℕ). all_below n (λ j. leb (w.length j) (past w x j))) same.signals

  stretch_alike : (x k : ℕ) → stretch v x k ≡ stretch w x k
  unfolding stretch
  stretch_alike x k = all_ext k (λ i. clear v (x + i)) (λ i. clear w (x + i)) (λ i l. clear_alike (x + i))

  pub width_alike : width v ≡ width w
  unfolding width
  width_alike =
      greatest_up_to_ext v.around (λ k. some_below v.around (λ x. stretch v x k)) (λ k. some_below v.around (λ x. stretch w x k))
      (λ k l. ap not (all_ext v.around (λ x. not (stretch v x k)) (λ x. not (stretch w x k)) (λ x m. ap not (stretch_alike x k))))
      ∙ ap (λ (M : ℕ). greatest_up_to M (λ k. some_below M (λ x. stretch w x k))) same.around

  pub start_alike : band_start v ≡ band_start w
  unfolding band_start
  start_alike =
      ap index_of
      (first_ext v.around (λ x. stretch v x (width v)) (λ x. stretch w x (width w))
      (λ x l. stretch_alike x (width v) ∙ ap (stretch w x) width_alike)
      ∙ ap (λ (M : ℕ). first_below M (λ x. stretch w x (width w))) same.around)

module _ (s z : Timed) (agree : Agree s z) (offset : ℕ → ℕ) where
  -- the directions differ in their lags alone
  ways_alike : (lag lag' : ℕ → ℕ) → ((j : ℕ) → j < s.signals → lag j ≡ lag' j) → Alike (along (outbound_way s offset) lag) (along (outbound_way z offset) lag')
  ways_alike lag lag' same =
      record {
        around = ap (λ (c : ℕ). 2 * c) agree.cycle;
        signals = agree.signals;
        length = λ j l. ap (λ (r : ℕ). 2 * r) (agree.red j l);
        past = λ x j l. cc (agree.cycle, red_start_agree s z agree j (offset j) l, same j l);
      }

  pub outbound_alike : Alike (outbound_way s offset) (outbound_way z offset)
  outbound_alike =
      ways_alike (outbound_way s offset).lag (outbound_way z offset).lag (λ j l. ap (λ (t : ℕ). 2 * t) (agree.outbound j l))

  pub inbound_alike : Alike (inbound_way s offset) (inbound_way z offset)
  inbound_alike =
      ways_alike (inbound_way s offset).lag (inbound_way z offset).lag
      (λ j l.
      let last : s.signals - 1 < s.signals = omega arith in
      let far : s.inbound (s.signals - 1) ≡ z.inbound (z.signals - 1) =
      agree.inbound (s.signals - 1) last ∙ ap (λ (n : ℕ). z.inbound (n - 1)) agree.signals in
      ap₂ (λ (t u : ℕ). 2 * (t - u)) far (agree.inbound j l))
