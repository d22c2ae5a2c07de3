-- Moved plans go by the signals below the count alone: two streets that agree there have one g, one range of requests, one u for each signal, one lowering and lowered
-- offset, and one platoon rule. Each follows from the agreement of what it is made of. Assumes nothing.
use Prim.Native.Nat.{ℕ, ◌*◌, ◌/◌, ◌<◌, min}
use mathlib.Core.Path.{◌≡◌, refl, ap, ap₂, ◌∙◌}
use mathlib.Core.Bool.{cond, true, false}
use lib.IntN.{pos, ◌+ℤ◌, ◌-ℤ◌}
use lib.Dec.{eqb}
use Rattle.circle.specs.Signed.{leℤ, minℤ, maxℤ, or_zero}
use Rattle.circle.specs.Over.{least_below}
use Rattle.circle.specs.Method.{Timed, halves, u, reference, phase, offset}
use Rattle.circle.specs.Moved.{g, in_range, chosen, outbound_lowering, inbound_lowering, lowered, other_width, found_width, platoon_width}
use Rattle.circle.proofs.Numbers.Where.{over_ext}
use Rattle.circle.proofs.Formulas.Method.{Agree, B_agree, reference_agree, reference_lt, offset_agree, u_agree, phase_agree}

module _ (s z : Timed) (agree : Agree s z) where
  pub g_agree : g s ≡ g z
  unfolding g
  g_agree =
      over_ext minℤ (pos 0) s.signals (λ j. true) (λ j. true) (λ j. pos (halves s) -ℤ pos (2 * s.red j)) (λ j. pos (halves z) -ℤ pos (2 * z.red j)) (λ j l. refl)
      (λ j l. ap₂ (λ (c r : ℕ). pos (2 * c) -ℤ pos (2 * r)) agree.cycle (agree.red j l))
      ∙ ap (λ (n : ℕ). least_below n (λ j. pos (halves z) -ℤ pos (2 * z.red j))) agree.signals

  pub in_range_agree : (w : ℕ) → in_range s w ≡ in_range z w
  unfolding in_range
  in_range_agree w =
      ap₂ (λ x y. cond (leℤ (maxℤ (pos 1) x) (pos w)) (leℤ (pos w) y) false) (B_agree s z agree) g_agree

  pub other_width_agree : (w : ℕ) → other_width s w ≡ other_width z w
  unfolding other_width
  other_width_agree w = ap (λ x. or_zero (x +ℤ x -ℤ pos w)) (B_agree s z agree)

  found_width_agree : (L T : ℕ) → found_width s L T ≡ found_width z L T
  unfolding found_width
  found_width_agree L T =
      ap₂ (λ x y. min (cond (leℤ (pos T) (x +ℤ x)) (or_zero (x +ℤ x) * L / T) L) (or_zero y)) (B_agree s z agree) g_agree

  pub platoon_width_agree : (L T : ℕ) → platoon_width s L T ≡ platoon_width z L T
  unfolding platoon_width
  platoon_width_agree L T =
      ap (λ (t : ℕ). cond (eqb t 0) (or_zero (g s)) (found_width s L T)) (other_width_agree (found_width s L T))
      ∙ ap₂ (λ (f : ℕ) y. cond (eqb (other_width z f) 0) (or_zero y) f) (found_width_agree L T) g_agree

  module _ (some : 0 < s.signals) where
    chosen_agree : (j : ℕ) → j < s.signals → chosen s j ≡ chosen z j
    unfolding chosen
    chosen_agree j l =
        let c = reference_lt s some in
        u_agree s z agree (reference s) j (phase s (reference s) j) c l
        ∙ ap (u z (reference s) j) (phase_agree s z agree (reference s) j c l)
        ∙ ap (λ (i : ℕ). u z i j (phase z i j)) (reference_agree s z agree)

    pub outbound_lowering_agree : (w j : ℕ) → j < s.signals → outbound_lowering s w j ≡ outbound_lowering z w j
    unfolding outbound_lowering
    outbound_lowering_agree w j l = cc (agree.cycle, agree.red j l, chosen_agree j l, B_agree s z agree)

    pub inbound_lowering_agree : (w j : ℕ) → j < s.signals → inbound_lowering s w j ≡ inbound_lowering z w j
    unfolding inbound_lowering
    inbound_lowering_agree w j l = cc (agree.red j l, chosen_agree j l)

    pub lowered_agree : (f h : ℕ → ℕ) (j : ℕ) → j < s.signals → f j ≡ h j → lowered s f j ≡ lowered z h j
    unfolding lowered
    lowered_agree f h j l e =
        let own : offset s (reference s) j ≡ offset z (reference z) j =
        offset_agree s z agree (reference s) j (reference_lt s some) l ∙ ap (λ (c : ℕ). offset z c j) (reference_agree s z agree) in
        cc (agree.cycle, own, e)
