-- Laws of phases and offsets: the better phase by comparing raised widths, its u from the raised width, how far a shift lowers, and an offset, a red's end and its start
-- as the one remainder that the code takes. A signal that rests has two widths alike, and so phase 0. Assumes nothing.
use Prim.Native.Nat.{ℕ, ◌+◌, ◌-◌, ◌*◌, ◌≤◌, ◌<◌}
use mathlib.Core.Path.{◌≡◌, refl, sym, ap, ap₂, ◌∙◌}
use mathlib.Core.Bool.{Bool, true, false, cond}
use mathlib.Core.List.{List, ◌++◌}
use native.Mathlib.Omega.{arith}
use native.Mathlib.Decide.{dec_lt}
use native.Mathlib.Nat.{add-zero}
use lib.IntN.{pos, ◌-ℤ◌}
use lib.ListN.{drop, get_or}
use lib.Dec.{leb}
use borrow.Author.Tests.{le-leb, lt-leb, lt-ltb, le-ltb}
use Rattle.circle.specs.Man.{man}
use Rattle.circle.specs.Over.{list_below}
use Rattle.circle.specs.Method.{Timed, halves, u, reference, phase, offset, red_end, red_start}
use Rattle.circle.specs.Moved.{chosen, lowered}
use Rattle.circle.proofs.Numbers.{get_or-list_below, man_lt, man_is, man_turns}
use Rattle.circle.proofs.Formulas.{reference_lt, Fit, B⁺, phase_red, phase_rest, outbound-lowering, inbound-lowering, resting_outbound, resting_inbound}
use Rattle.circle.proofs.Stretches.{offset_turns}
use Rattle.road.specs.Steps.{max_time}
use Rattle.street.specs.Steps.{Sound}
use Rattle.search.specs.Steps.{pair_of}
use Rattle.search.proofs.Pairs.{Pair, leaves_red, pair_rest, pair-widths}
use Rattle.search.proofs.Leading.{fit_sound}
use Rattle.widths.specs.Steps.{shift_width}
use Rattle.widths.specs.declared.Shift.{Shift}
use Rattle.widths.specs.declared.Shift.TheVariants.{Unmoved, Outbound, Inbound}
use Rattle.widths.proofs.WidthLaws.{raised_is}
use Rattle.offsets.specs.Moved.{lowering, moved_offset}
use Rattle.offsets.specs.Steps.{Ready, choice_by, better_of, choice_of, lowering_of, offset_at}
use Rattle.offsets.specs.declared.Choice.{Choice}

-- a raised width and its red have a u on the cycle in them
abbrev pub HasU : ℕ → ℕ → ℕ → Type 0
HasU cycle red w = (2 * cycle ≤ w + 2 * red) × (w + 2 * red ≤ 4 * cycle)

module _ (cycle from to red : ℕ) (w : List ℕ) (some : 1 ≤ cycle) (goes : red < cycle) (is : w ≡ pair_of cycle from to red) where
  pub has_us : HasU cycle red (get_or w 0 0) × HasU cycle red (get_or w 1 0)
  has_us = go (dec_lt 0 red)
    where
      go : Dec (0 < red) → HasU cycle red (get_or w 0 0) × HasU cycle red (get_or w 1 0)
      go (yes stops) =
          let h : 0 < 2 * cycle = omega arith in
          let even = man_lt (2 * cycle) (pos from -ℤ pos to) h in
          let odd = man_lt (2 * cycle) (pos from -ℤ pos to -ℤ pos cycle) h in
          let even_is = leaves_red cycle red (man (2 * cycle) (pos from -ℤ pos to)) stops in
          let odd_is = leaves_red cycle red (man (2 * cycle) (pos from -ℤ pos to -ℤ pos cycle)) stops in
          (omega (arith, ap (λ z. get_or z 0 0) is), omega (arith, ap (λ z. get_or z 1 0) is))
      go (no none) =
          let both = is ∙ pair_rest cycle from to red none in
          (omega (arith, ap (λ z. get_or z 0 0) both), omega (arith, ap (λ z. get_or z 1 0) both))

-- the choice by the outcome of its test
pub choice_even : (cycle from to red : ℕ) (w : List ℕ) → w ≡ pair_of cycle from to red → get_or w 1 0 ≤ get_or w 0 0 → choice_by cycle red w true ≡ choice_of cycle from to red
choice_even cycle from to red w is l = ap (choice_by cycle red w) (sym (le-leb (get_or w 1 0) (get_or w 0 0) l)) ∙ ap (better_of cycle red) is

pub choice_odd : (cycle from to red : ℕ) (w : List ℕ) → w ≡ pair_of cycle from to red → get_or w 0 0 < get_or w 1 0 → choice_by cycle red w false ≡ choice_of cycle from to red
choice_odd cycle from to red w is l = ap (choice_by cycle red w) (sym (lt-leb (get_or w 1 0) (get_or w 0 0) l)) ∙ ap (better_of cycle red) is

pub choice_small : (cycle from to red : ℕ) → 1 ≤ cycle → red < cycle → ((choice_of cycle from to red).phase ≤ cycle) × ((choice_of cycle from to red).u ≤ 2 * cycle)
choice_small cycle from to red some goes = go (leb (get_or w 1 0) (get_or w 0 0))
  where
    w : List ℕ
    w = pair_of cycle from to red

    go : (t : Bool) → ((choice_by cycle red w t).phase ≤ cycle) × ((choice_by cycle red w t).u ≤ 2 * cycle)
    go true = let range = (has_us cycle from to red w some goes refl).0 in omega arith
    go false = let range = (has_us cycle from to red w some goes refl).1 in omega arith

-- the better phase by raised widths is the method's, and so is its u where the signal has a red
module _ (s : Timed) (fit : Fit s) (c j : ℕ) (l : j < s.signals) (red : 0 < s.red j) (w : List ℕ) (ok : Pair s c j w) where
  better_phase : (better_of s.cycle (s.red j) w).phase ≡ phase s c j
  better_phase = ap (λ t. cond t 0 s.cycle) (ap₂ leb ok.odd ok.even) ∙ sym (phase_red s fit c j l red)

  better_u : (better_of s.cycle (s.red j) w).u ≡ u s c j (phase s c j)
  better_u = go (leb (get_or w 1 0) (get_or w 0 0)) ∙ ap (u s c j) better_phase
    where
      go : (t : Bool) → (choice_by s.cycle (s.red j) w t).u ≡ u s c j (cond t 0 s.cycle)
      go true = omega (arith, ok.even, fit.goes j l)
      go false = omega (arith, ok.odd, fit.goes j l)

-- a signal that rests has phase 0
resting_phase : (s : Timed) → Fit s → (c j x y : ℕ) → (0 < s.red j → ⊥) → (choice_of s.cycle x y (s.red j)).phase ≡ phase s c j
resting_phase s fit c j x y none =
    let top = 4 * s.cycle in
    ap (λ w. (better_of s.cycle (s.red j) w).phase) (pair_rest s.cycle x y (s.red j) none)
    ∙ ap (λ t. cond t 0 s.cycle) (le-leb top top (omega arith))
    ∙ sym (phase_rest s fit c j none)

-- the reference is one of the signals
pub ready_lt : (s : Timed) (x : List ℕ) (c raised : ℕ) → Ready s x c raised → c < s.signals
ready_lt s x c raised ok = omega (arith, ok.found, reference_lt s ok.base.sound.some)

-- one side of an offset is small enough that no sum wraps
pub side_small : (s : Timed) (i j : ℕ) → Sound s → i < s.signals → j < s.signals → s.outbound i + s.inbound j ≤ 2 * max_time
side_small s i j ok li lj = omega (arith, ok.out i li, ok.back j lj)

-- the lowering of a signal with a red, and of one that rests
pub lowering_out : (raised red x w : ℕ) → 0 < red → lowering_of (Outbound w) raised red x ≡ x + w - raised
lowering_out raised red x w stops = ap (λ t. cond t (x + w - raised) 0) (lt-ltb 0 red stops)

pub lowering_in : (raised red x w : ℕ) → 0 < red → lowering_of (Inbound w) raised red x ≡ w + 2 * red - x
lowering_in raised red x w stops = ap (λ t. cond t (w + 2 * red - x) 0) (lt-ltb 0 red stops)

pub lowering-none : (raised red x : ℕ) (shift : Shift) → (0 < red → ⊥) → lowering_of shift raised red x ≡ 0
lowering-none raised red x Unmoved none = refl
lowering-none raised red x (Outbound w) none = ap (λ t. cond t (x + w - raised) 0) (le-ltb 0 red (omega (arith, none)))
lowering-none raised red x (Inbound w) none = ap (λ t. cond t (w + 2 * red - x) 0) (le-ltb 0 red (omega (arith, none)))

pub lowering_small : (raised red x : ℕ) (shift : Shift) → lowering_of shift raised red x ≤ shift_width shift + x + 2 * red
lowering_small raised red x shift = go (dec_lt 0 red) shift
  where
    go : Dec (0 < red) → (shift : Shift) → lowering_of shift raised red x ≤ shift_width shift + x + 2 * red
    go (no none) shift = omega (arith, lowering-none raised red x shift none)
    go (yes stops) Unmoved = omega arith
    go (yes stops) (Outbound w) = omega (arith, lowering_out raised red x w stops)
    go (yes stops) (Inbound w) = omega (arith, lowering_in raised red x w stops)

-- each shift's lowering, with B raised
lowering_is : (s : Timed) → Fit s → (raised j x : ℕ) (shift : Shift) → raised ≡ B⁺ s → 0 < s.red j → x ≡ chosen s j → lowering_of shift raised (s.red j) x ≡ lowering shift s j
lowering_is s fit raised j x Unmoved is red e = refl
lowering_is s fit raised j x (Outbound w) is red e = omega (arith, lowering_out raised (s.red j) x w red, outbound-lowering s fit w j red)
lowering_is s fit raised j x (Inbound w) is red e = omega (arith, lowering_in raised (s.red j) x w red, inbound-lowering s fit w j red)

resting_is : (s : Timed) → Fit s → (raised j x : ℕ) (shift : Shift) → (0 < s.red j → ⊥) → lowering_of shift raised (s.red j) x ≡ lowering shift s j
resting_is s fit raised j x Unmoved none = refl
resting_is s fit raised j x (Outbound w) none = lowering-none raised (s.red j) x (Outbound w) none ∙ sym (resting_outbound s fit w j none)
resting_is s fit raised j x (Inbound w) none = lowering-none raised (s.red j) x (Inbound w) none ∙ sym (resting_inbound s fit w j none)

-- one remainder goes round the cycle for the offset and its lowering
moved-man : (s : Timed) (c j p down : ℕ) (shift : Shift) → 0 < halves s → c ≡ reference s → p ≡ phase s c j → down ≡ lowering shift s j →
    man (halves s) (pos (s.outbound j + s.inbound c + p) -ℤ pos (s.outbound c + s.inbound j + down)) ≡ moved_offset shift s j
unfolding lowered offset
moved-man s c j p down shift h found ep ed =
    let ahead = s.outbound j + s.inbound c + p in
    let behind = s.outbound c + s.inbound j + down in
    let equal = offset_turns s c j (phase s c j) (offset s c j) h refl in
    let moved = man_turns (halves s) ahead behind h in
    sym
    (ap₂ (λ (k x : ℕ). man (halves s) (pos (offset s k j) -ℤ pos x)) (sym found) (sym ed)
    ∙ man_is (halves s) (offset s c j) down (man (halves s) (pos ahead -ℤ pos behind)) (man_lt (halves s) (pos ahead -ℤ pos behind) h)
    (record { p = moved.p + equal.q; q = moved.q + equal.p; eq = omega (arith, moved.eq, equal.eq, ep) }))

-- an offset from the better phase and the lowering, as the code joins them to the two sides
pub offset_parts : (cycle raised : ℕ) (shift : Shift) (from to red ahead behind : ℕ) (better : Choice) (down r : ℕ) → better ≡ choice_of cycle from to red →
    down ≡ lowering_of shift raised red better.u →
    r ≡ man (2 * cycle) (pos (ahead + better.phase) -ℤ pos (behind + down)) → r ≡ offset_at cycle raised shift from to red ahead behind
offset_parts cycle raised shift from to red ahead behind better down r found lowers e =
    e
    ∙ ap₂ (λ (x y : ℕ). man (2 * cycle) (pos (ahead + x) -ℤ pos (behind + y)))
    (ap (λ x. x.phase) found)
    (lowers ∙ ap (λ x. lowering_of shift raised red x.u) found)

-- what the code works out for a signal of a street is the signal's offset
pub offset_at_is : (s : Timed) (x : List ℕ) (c raised j r : ℕ) (shift : Shift) → Ready s x c raised → j < s.signals →
    r ≡ offset_at s.cycle raised shift (get_or x c 0) (get_or x j 0) (s.red j) (s.outbound j + s.inbound c) (s.outbound c + s.inbound j) → r ≡ moved_offset shift s j
unfolding chosen
offset_at_is s x c raised j r shift ok l e =
    e ∙ moved-man s c j better.phase (lowering_of shift raised (s.red j) better.u) shift (omega (arith, fit.turns)) ok.found parts.0 parts.1
  where
    fit : Fit s
    fit = fit_sound s ok.base.sound

    w : List ℕ
    w = pair_of s.cycle (get_or x c 0) (get_or x j 0) (s.red j)

    better : Choice
    better = better_of s.cycle (s.red j) w

    -- the phase and the lowering, of a signal with a red and of one that rests
    settle : Dec (0 < s.red j) → (better.phase ≡ phase s c j) × (lowering_of shift raised (s.red j) better.u ≡ lowering shift s j)
    settle (yes red) =
        let pair = pair-widths s c j (get_or x c 0) (get_or x j 0) w fit.turns red (fit.goes j l) (ok.anchors.each c (ready_lt s x c raised ok)) (ok.anchors.each j l) refl in
        let own : better.u ≡ chosen s j = better_u s fit c j l red w pair ∙ ap (λ (k : ℕ). u s k j (phase s k j)) ok.found in
        (better_phase s fit c j l red w pair, lowering_is s fit raised j better.u shift (raised_is s raised ok.base) red own)
    settle (no none) =
        (resting_phase s fit c j (get_or x c 0) (get_or x j 0) none, resting_is s fit raised j better.u shift none)

    parts : (better.phase ≡ phase s c j) × (lowering_of shift raised (s.red j) better.u ≡ lowering shift s j)
    parts = settle (dec_lt 0 (s.red j))

-- the reference's own offset, as it stands in a list that was written
pub own_written : (s : Timed) (x : List ℕ) (c raised : ℕ) (shift : Shift) (before after : List ℕ) → Ready s x c raised →
    after ≡ list_below s.signals (moved_offset shift s) ++ drop s.signals before → get_or after c 0 ≡ moved_offset shift s (reference s)
own_written s x c raised shift before after ok wrote =
    ap (λ xs. get_or xs c 0) wrote
    ∙ get_or-list_below s.signals (moved_offset shift s) (drop s.signals before) c 0 (ready_lt s x c raised ok)
    ∙ ap (moved_offset shift s) ok.found

pub moved_lt : (s : Timed) (shift : Shift) (j : ℕ) → 0 < s.cycle → moved_offset shift s j < halves s
unfolding lowered
moved_lt s shift j some =
    let h : 0 < 2 * s.cycle = omega arith in
    man_lt (2 * s.cycle) (pos (offset s (reference s) j) -ℤ pos (lowering shift s j)) h

pub red_end_man : (s : Timed) (j f : ℕ) → man (halves s) (pos (f + s.red j) -ℤ pos 0) ≡ red_end s j f
unfolding red_end
red_end_man s j f = ap (λ (x : ℕ). man (halves s) (pos x)) (add-zero (f + s.red j))

pub red_start_man : (s : Timed) (j f : ℕ) → man (halves s) (pos f -ℤ pos (s.red j)) ≡ red_start s j f
unfolding red_start
red_start_man s j f = refl
