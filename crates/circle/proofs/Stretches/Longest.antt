-- The longest stretch there is, found from the red ends. From one instant, the longest stretch is the least that any red leaves of the cycle. A stretch that starts some time
-- after every red ended can start that much sooner and last that much longer; so, where some signal has a red, a stretch of the greatest width starts as a red ends, and
-- the red ends, brought back to the departure signal, are all the starts that need be tried. Assumes nothing.
use Prim.Native.Nat.{ℕ, zero, suc, ◌+◌, ◌-◌, ◌≤◌, ◌<◌}
use mathlib.Core.Path.{◌≡◌, refl, ap}
use mathlib.Core.Bool.{cond}
use mathlib.Core.Logic.{◌⊎◌, inl, inr, ⊎_elim}
use native.Mathlib.Omega.{arith}
use native.Mathlib.Decide.{dec_lt}
use lib.IntN.{pos, ◌-ℤ◌}
use lib.Dec.{ltb}
use borrow.Author.Tests.{lt-ltb, le-ltb}
use Rattle.circle.specs.Man.{man}
use Rattle.circle.specs.Bands.{Way, greatest_up_to, stretch, width}
use Rattle.circle.proofs.Numbers.Man.{man_lt, man_is, man_turns}
use Rattle.circle.proofs.Numbers.Least.{Least, least_or_none}
use Rattle.circle.proofs.Numbers.Over.{min_below, min_le, min_at, min_from}
use Rattle.circle.proofs.Stretches.Arcs.{since, Passes}
use Rattle.circle.proofs.Numbers.Tests.{greatest_le, greatest_passes, greatest_ge, greatest_is}
use Rattle.circle.proofs.Stretches.Clear.{Proper, passes_stretch, stretch_passes, width_ge}

-- the length of the longest stretch from an instant
abbrev pub longest : Way → ℕ → ℕ
longest w x = greatest_up_to w.around (stretch w x)

-- how much of the cycle a signal leaves a stretch from the instant x: what is neither its red nor gone since its red ended, and all of it where it has no red
abbrev pub left : Way → ℕ → ℕ → ℕ
left w x j = cond (ltb 0 (w.length j)) (w.around - (w.length j + since w x j)) w.around

left_passes : (w : Way) (x k : ℕ) → 1 ≤ k → k ≤ w.around → ((j : ℕ) → j < w.signals → k ≤ left w x j) → Passes w x k
left_passes w x k one most each =
    record {
      most = most;
      each =
          λ j lj red.
          let is : left w x j ≡ w.around - (w.length j + since w x j) =
          ap (λ t. cond t (w.around - (w.length j + since w x j)) w.around) (lt-ltb 0 (w.length j) red) in
          omega (arith, is, each j lj);
    }

passes_left : (w : Way) (x k : ℕ) → Passes w x k → (j : ℕ) → j < w.signals → k ≤ left w x j
passes_left w x k p j lj = go (dec_lt 0 (w.length j))
  where
    go : Dec (0 < w.length j) → k ≤ left w x j
    go (yes red) =
        let is : left w x j ≡ w.around - (w.length j + since w x j) =
        ap (λ t. cond t (w.around - (w.length j + since w x j)) w.around) (lt-ltb 0 (w.length j) red) in
        omega (arith, is, p.each j lj red)
    go (no none) =
        let rest : w.length j ≤ 0 = omega arith in
        let is : left w x j ≡ w.around =
        ap (λ t. cond t (w.around - (w.length j + since w x j)) w.around) (le-ltb 0 (w.length j) rest) in
        omega (arith, is, p.most)

-- the longest stretch from an instant is the least that any signal leaves
pub longest-least : (w : Way) → Proper w → (x : ℕ) → longest w x ≡ min_below w.around w.signals (left w x)
longest-least w proper x =
    let v = min_below w.around w.signals (left w x) in
    let low = min_le w.around w.signals (left w x) in
    greatest_is w.around (stretch w x) v low
    (λ one. passes_stretch w x v (left_passes w x v one low (λ j lj. min_at w.around w.signals (left w x) j lj)))
    (λ k one l e. min_from w.around w.signals (left w x) k l (passes_left w x k (stretch_passes w proper x k one l e)))

pub longest_passes : (w : Way) → Proper w → (x : ℕ) → 1 ≤ longest w x → Passes w x (longest w x)
longest_passes w proper x one =
    stretch_passes w proper x (longest w x) one (greatest_le w.around (stretch w x)) (greatest_passes w.around (stretch w x) one)

pub longest_ge : (w : Way) (x k : ℕ) → Passes w x k → k ≤ longest w x
longest_ge w x k p = greatest_ge w.around (stretch w x) k p.most (passes_stretch w x k p)

-- no stretch is longer than the band
pub longest-width : (w : Way) → Proper w → (x : ℕ) → longest w x ≤ width w
longest-width w proper x = go (longest w x) refl
  where
    go : (v : ℕ) → longest w x ≡ v → longest w x ≤ width w
    go zero e = omega arith
    go (suc v) e =
        let one : 1 ≤ longest w x = omega arith in
        width_ge w proper x (longest w x) (longest_passes w proper x one)

-- a stretch that starts at least d after every red ended may start d sooner
pub passes_sooner : (w : Way) → Proper w → (x k d : ℕ) → k + d ≤ w.around → ((j : ℕ) → j < w.signals → 0 < w.length j → d ≤ since w x j) → Passes w x k → Passes w (x + (w.around - d)) (k + d)
passes_sooner w proper x k d l later p =
    record {
      most = l;
      each =
          λ j lj red.
          let end = w.start j + w.length j in
          let c = man_turns w.around (x + w.lag j) end proper.turns in
          let small : since w x j < w.around = man_lt w.around (pos (x + w.lag j) -ℤ pos end) proper.turns in
          let enough : d ≤ since w x j = later j lj red in
          let is : since w (x + (w.around - d)) j ≡ since w x j - d =
          man_is w.around (x + (w.around - d) + w.lag j) end (since w x j - d) (omega arith)
          (record { p = 1 + c.p; q = c.q; eq = omega (arith, c.eq) }) in
          omega (arith, is, p.each j lj red);
    }

-- a signal with a red that ends as the departure at x comes by
pub record Ending (w : Way) (x : ℕ) : Type 0 where
  pub signal : ℕ
  pub below : signal < w.signals
  pub red : 0 < w.length signal
  pub ends : since w x signal ≡ 0

-- a stretch of the greatest width starts as a red ends, or no signal has a red
pub starts_ending : (w : Way) → Proper w → (x : ℕ) → Passes w x (width w) → Ending w x ⊎ ((j : ℕ) → j < w.signals → 0 < w.length j → ⊥)
starts_ending w proper x p = ⊎_elim (λ s. inl (ending s)) inr (least_or_none w.signals w.length (since w x))
  where
    -- of the signals with a red one whose red ended last: had it ended some time ago, the stretch could start that much sooner
    ending : Least w.signals w.length (since w x) → Ending w x
    ending s =
        let d = since w x s.at in
        let fits : d + width w + w.length s.at ≤ w.around = p.each s.at s.below s.counts in
        let sooner = passes_sooner w proper x (width w) d (omega arith) s.least p in
        let most = width_ge w proper (x + (w.around - d)) (width w + d) sooner in
        record { signal = s.at; below = s.below; red = s.counts; ends = omega arith }

-- the instant at the departure signal that comes to signal i as its red ends
abbrev pub end_at : Way → ℕ → ℕ
end_at w i = man w.around (pos (w.start i + w.length i) -ℤ pos (w.lag i))

-- it is the only one on the cycle
pub end_is : (w : Way) → Proper w → (x i : ℕ) → x < w.around → since w x i ≡ 0 → end_at w i ≡ x
end_is w proper x i l none =
    let c = man_turns w.around (x + w.lag i) (w.start i + w.length i) proper.turns in
    man_is w.around (w.start i + w.length i) (w.lag i) x l
    (record { p = c.q; q = c.p; eq = omega (arith, c.eq, none) })

-- the time since a red ended is the way round from that instant
pub since_end : (w : Way) → Proper w → (x i : ℕ) → since w x i ≡ man w.around (pos x -ℤ pos (end_at w i))
since_end w proper x i =
    let M = w.around in
    let c = man_turns M (w.start i + w.length i) (w.lag i) proper.turns in
    let d = man_turns M x (end_at w i) proper.turns in
    man_is M (x + w.lag i) (w.start i + w.length i) (man M (pos x -ℤ pos (end_at w i)))
    (man_lt M (pos x -ℤ pos (end_at w i)) proper.turns)
    (record { p = d.p + c.q; q = d.q + c.p; eq = omega (arith, c.eq, d.eq) })
