-- A request to move width, in plain numbers. Raised by the cycle B is a natural, and g is one as it stands; so a width in range is 1 or more, reaches B and leaves room for
-- each signal's red, and no other width is in range; and what is left for the other direction is a truncated difference, as are the lowerings of the signals with a red. Such a
-- signal never leaves less than B beside its red, and B is at most the cycle, so B is at most g; the reference's own u is the cycle, so an inbound request leaves it in place and an outbound
-- one lowers it by w - B: by nothing where it rests, since then both are the cycle. Assumes nothing.
use Prim.Native.Nat.{ℕ, ◌+◌, ◌-◌, ◌*◌, ◌≤◌, ◌<◌, max}
use mathlib.Core.Path.{◌≡◌, refl, sym, ap, ap₂, ◌∙◌}
use mathlib.Core.Bool.{Bool, true, false, cond}
use native.Mathlib.Omega.{arith}
use native.Mathlib.Decide.{dec_lt}
use lib.IntN.{pos, sub_ℕ, ◌+ℤ◌, ◌-ℤ◌}
use lib.Dec.{leb}
use borrow.Author.Tests.{le-leb, leb-true}
use Rattle.circle.specs.Signed.{leℤ, minℤ, maxℤ, or_zero}
use Rattle.circle.specs.Method.{Timed, halves, B, reference, phase, offset, equal_width}
use Rattle.circle.specs.Moved.{g, in_range, chosen, outbound_lowering, inbound_lowering, lowered, other_width}
use Rattle.circle.proofs.Numbers.Signed.{sub_eq, pos_sub, pos_minus, pos_less, add_sub, minus_sub, sub_injective, le_sub, max_sub, or_zero_sub}
use Rattle.circle.proofs.Numbers.Man.{Turns, man_turns}
use Rattle.circle.proofs.Numbers.Tests.{cond_left, cond_right}
use Rattle.circle.proofs.Numbers.Over.{min_below, min_le, min_at, min_from}
use Rattle.circle.proofs.Numbers.Where.{least-raised, over_all}
use Rattle.circle.proofs.Formulas.Method.{u_is, u_range}
use Rattle.circle.proofs.Formulas.Raised.{Fit, B⁺, B_raised, with_red, at_rest, low}
use Rattle.circle.proofs.Formulas.Reference.{reference-first, reference_rests, B⁺_le, u_turns, leaves, phase_own}

-- g: the shortest green
abbrev pub green : Timed → ℕ
green s = min_below (halves s) s.signals (λ j. halves s - 2 * s.red j)

-- a width in range
pub record Asked (s : Timed) (w : ℕ) : Type 0 where
  pub some : 1 ≤ w
  pub reaches : B⁺ s ≤ w + halves s
  pub fits : (j : ℕ) → j < s.signals → w + 2 * s.red j ≤ halves s

-- a natural, raised by h
pub raise : (a h : ℕ) → pos a ≡ sub_ℕ (a + h) h
raise a h = pos_sub a ∙ sub_eq a 0 (a + h) h (omega arith)

module _ (s : Timed) (fit : Fit s) where
  around : 0 < 2 * s.cycle
  around = omega (arith, fit.turns)

  -- the chosen u: in 1 to H, never less than B beside a red, and H at the reference
  pub chosen_range : (j : ℕ) → (1 ≤ chosen s j) × (chosen s j ≤ halves s)
  unfolding chosen
  chosen_range j = u_range s (reference s) j (phase s (reference s) j) fit.turns

  pub chosen_leaves : (j : ℕ) → j < s.signals → 0 < s.red j → B⁺ s + 2 * s.red j ≤ chosen s j + halves s
  unfolding chosen
  chosen_leaves = leaves s fit

  pub chosen_turns : (j : ℕ) → Turns (halves s) (halves s - chosen s j + (s.red j + s.outbound (reference s) + s.inbound (reference s) + phase s (reference s) j)) (s.red (reference s) + s.outbound j + s.inbound j)
  unfolding chosen
  chosen_turns j = u_turns s (reference s) j (phase s (reference s) j) around

  pub chosen_own : chosen s (reference s) ≡ halves s
  unfolding chosen
  chosen_own =
      let c = reference s in
      let own = phase_own s fit c (reference-first s fit).below in
      let touches = u_is s c c (phase s c c) 0 around (record { p = 0; q = 0; eq = omega arith }) in
      omega (arith, touches)

  -- g is at least what fits beside each red
  pub green-from : (w : ℕ) → ((j : ℕ) → j < s.signals → w + 2 * s.red j ≤ halves s) → w ≤ green s
  green-from w fits =
      min_from (halves s) s.signals (λ j. halves s - 2 * s.red j) w (omega (arith, fits 0 fit.some)) (λ j l. omega (arith, fits j l))

  pub green_le : green s ≤ halves s
  green_le = min_le (halves s) s.signals (λ j. halves s - 2 * s.red j)

  pub asked_green : (w : ℕ) → Asked s w → w ≤ green s
  asked_green w a = green-from w a.fits

  pub green_some : 1 ≤ green s
  green_some = green-from 1 (λ j l. omega (arith, fit.goes j l))

  -- the one natural that is B once the cycle is taken from it
  pub B⁺_is : (r : ℕ) → pos r -ℤ pos (halves s) ≡ B s → r ≡ B⁺ s
  B⁺_is r e = sub_injective r (B⁺ s) (halves s) (sym (pos_minus r (halves s)) ∙ e ∙ B_raised s fit)

  -- B is at most g
  pub B_fits : (j : ℕ) → j < s.signals → B⁺ s + 2 * s.red j ≤ 2 * halves s
  B_fits j l = go (dec_lt 0 (s.red j))
    where
      go : Dec (0 < s.red j) → B⁺ s + 2 * s.red j ≤ 2 * halves s
      go (yes red) = omega (arith, chosen_leaves j l red, chosen_range j)
      go (no none) = omega (arith, none, B⁺_le s fit)

  pub B_green : B⁺ s ≤ green s + halves s
  B_green =
      let l = green-from (B⁺ s - halves s) (λ j l. omega (arith, B_fits j l, low s fit j l)) in
      omega arith

  pub g_is : g s ≡ pos (green s)
  unfolding g
  g_is =
      over_all minℤ (pos 0) (sub_ℕ (halves s) 0) s.signals (λ j. pos (halves s) -ℤ pos (2 * s.red j)) fit.some
      ∙ least-raised 0 (halves s) s.signals
      (λ j. true)
      (λ j. pos (halves s) -ℤ pos (2 * s.red j))
      (λ j. halves s - 2 * s.red j)
      (λ j l. omega arith)
      (λ j l. sym (pos_less (halves s) (2 * s.red j) (low s fit j l)) ∙ pos_sub (halves s - 2 * s.red j))
      ∙ sym (pos_sub (green s))

  pub green_is : (r : ℕ) → pos r ≡ g s → r ≡ green s
  green_is r e = ap or_zero (e ∙ g_is)

  -- the test of a request
  tested : (w : ℕ) → in_range s w ≡ cond (leb (max (1 + halves s) (B⁺ s)) (w + halves s)) (leb w (green s)) false
  unfolding in_range
  tested w =
      let H = halves s in
      ap₂ (λ p q. cond p q false)
      (ap₂ leℤ (ap₂ maxℤ (raise 1 H) (B_raised s fit) ∙ max_sub (1 + H) (B⁺ s) H) (raise w H)
      ∙ le_sub (max (1 + H) (B⁺ s)) (w + H) H)
      (ap (leℤ (pos w)) g_is)

  pub asked : (w : ℕ) → in_range s w ≡ true → Asked s w
  asked w e =
      let p = cond_left (leb (max (1 + halves s) (B⁺ s)) (w + halves s)) (leb w (green s)) (sym (tested w) ∙ e) in
      let q = cond_right (leb (max (1 + halves s) (B⁺ s)) (w + halves s)) (leb w (green s)) (sym (tested w) ∙ e) in
      let l = leb-true (max (1 + halves s) (B⁺ s)) (w + halves s) p in
      let m = leb-true w (green s) q in
      record {
        some = omega arith;
        reaches = omega arith;
        fits = λ j h. let beside = min_at (halves s) s.signals (λ k. halves s - 2 * s.red k) j h in omega (arith, low s fit j h);
      }

  pub within : (w : ℕ) → 1 ≤ w → B⁺ s ≤ w + halves s → w ≤ green s → in_range s w ≡ true
  within w some reaches fits =
      let l : max (1 + halves s) (B⁺ s) ≤ w + halves s = omega arith in
      tested w ∙ ap₂ (λ p q. cond p q false) (le-leb (max (1 + halves s) (B⁺ s)) (w + halves s) l) (le-leb w (green s) fits)

  pub outside : (w : ℕ) → (Asked s w → ⊥) → in_range s w ≡ false
  outside w none = go (in_range s w) refl
    where
      go : (t : Bool) → in_range s w ≡ t → t ≡ false
      go true e = absurd (none (asked w e))
      go false e = refl

  -- the lowerings of a signal with a red
  pub outbound-lowering : (w j : ℕ) → 0 < s.red j → outbound_lowering s w j ≡ chosen s j + w - B⁺ s
  unfolding outbound_lowering
  outbound-lowering w j red =
      let H = halves s in
      let u = chosen s j in
      ap (λ t. cond t (or_zero (pos u -ℤ pos H +ℤ pos w -ℤ B s)) 0) (with_red s j red)
      ∙ ap or_zero
      (ap₂ (λ x y. x +ℤ y -ℤ B s) (pos_minus u H) (pos_sub w)
      ∙ ap₂ (λ x y. x -ℤ y) (add_sub u H w 0) (B_raised s fit)
      ∙ minus_sub (u + w) (H + 0) (B⁺ s) H
      ∙ sub_eq (u + w + H) (H + 0 + B⁺ s) (u + w) (B⁺ s) (omega arith))
      ∙ or_zero_sub (u + w) (B⁺ s)

  pub inbound-lowering : (w j : ℕ) → 0 < s.red j → inbound_lowering s w j ≡ w + 2 * s.red j - chosen s j
  unfolding inbound_lowering
  inbound-lowering w j red =
      ap (λ t. cond t (or_zero (pos (w + 2 * s.red j) -ℤ pos (chosen s j))) 0) (with_red s j red)
      ∙ ap or_zero (pos_minus (w + 2 * s.red j) (chosen s j))
      ∙ or_zero_sub (w + 2 * s.red j) (chosen s j)

  -- and of one that rests
  pub resting_outbound : (w j : ℕ) → (0 < s.red j → ⊥) → outbound_lowering s w j ≡ 0
  unfolding outbound_lowering
  resting_outbound w j none = ap (λ t. cond t (or_zero (pos (chosen s j) -ℤ pos (halves s) +ℤ pos w -ℤ B s)) 0) (at_rest s j none)

  pub resting_inbound : (w j : ℕ) → (0 < s.red j → ⊥) → inbound_lowering s w j ≡ 0
  unfolding inbound_lowering
  resting_inbound w j none = ap (λ t. cond t (or_zero (pos w +ℤ pos (2 * s.red j) -ℤ pos (chosen s j))) 0) (at_rest s j none)

  -- the other direction's width
  pub double : B s +ℤ B s ≡ sub_ℕ (2 * B⁺ s) (2 * halves s)
  double =
      let H = halves s in
      let Bp = B⁺ s in
      ap₂ ◌+ℤ◌ (B_raised s fit) (B_raised s fit)
      ∙ add_sub Bp H Bp H
      ∙ sub_eq (Bp + Bp) (H + H) (2 * Bp) (2 * H) (omega arith)

  pub equal_width_lem : equal_width s ≡ B⁺ s - halves s
  unfolding equal_width
  equal_width_lem = ap or_zero (B_raised s fit) ∙ or_zero_sub (B⁺ s) (halves s)

  pub other_width_lem : (w : ℕ) → other_width s w ≡ 2 * B⁺ s - (2 * halves s + w)
  unfolding other_width
  other_width_lem w =
      let H = halves s in
      let Bp = B⁺ s in
      ap or_zero
      (ap₂ (λ x y. x -ℤ y) double (pos_sub w)
      ∙ minus_sub (2 * Bp) (2 * H) w 0
      ∙ sub_eq (2 * Bp + 0) (2 * H + w) (2 * Bp) (2 * H + w) (omega arith))
      ∙ or_zero_sub (2 * Bp) (2 * H + w)

  -- an offset and its lowering make up the equal plan's offset
  pub lowered_turns : (δ : ℕ → ℕ) (j : ℕ) → Turns (halves s) (lowered s δ j + δ j) (offset s (reference s) j)
  unfolding lowered
  lowered_turns δ j = man_turns (halves s) (offset s (reference s) j) (δ j) around

  module _ (w : ℕ) (a : Asked s w) where
    -- the reference's own
    pub outbound-lowering_own : outbound_lowering s w (reference s) + B⁺ s ≡ w + halves s
    outbound-lowering_own = go (dec_lt 0 (s.red (reference s)))
      where
        go : Dec (0 < s.red (reference s)) → outbound_lowering s w (reference s) + B⁺ s ≡ w + halves s
        go (yes red) = omega (arith, outbound-lowering w (reference s) red, chosen_own, a.reaches)
        go (no none) =
            omega (arith, resting_outbound w (reference s) none, (reference_rests s fit none).0, a.reaches, a.fits (reference s) (reference-first s fit).below)

    pub inbound-lowering_own : inbound_lowering s w (reference s) ≡ 0
    inbound-lowering_own = go (dec_lt 0 (s.red (reference s)))
      where
        go : Dec (0 < s.red (reference s)) → inbound_lowering s w (reference s) ≡ 0
        go (yes red) =
            omega (arith, inbound-lowering w (reference s) red, chosen_own, a.fits (reference s) (reference-first s fit).below)
        go (no none) = resting_inbound w (reference s) none
