-- The named bands of each plan. The equal plan lowers nothing and leaves room for B, since no signal with a red leaves less beside it. The lowerings of a request leave room for the
-- width that was asked and for what is left of 2B, or for a stretch of negative length where nothing is. Assumes nothing.
use Prim.Native.Nat.{ℕ, ◌+◌, ◌-◌, ◌*◌, ◌≤◌, ◌<◌}
use mathlib.Core.Path.{◌≡◌}
use mathlib.Core.Bool.{true}
use native.Mathlib.Omega.{arith}
use Rattle.circle.specs.Method.{Timed, halves, reference, offset, equal_width}
use Rattle.circle.specs.Moved.{in_range, outbound_lowering, inbound_lowering, lowered, other_width}
use Rattle.circle.proofs.Formulas.Raised.{Fit, B⁺}
use Rattle.circle.proofs.Formulas.Reference.{B⁺_le}
use Rattle.circle.proofs.Stretches.Since.{Rising}
use Rattle.circle.proofs.Bands.Names.{Bands, Room, bands}
use Rattle.circle.proofs.Formulas.Moving.{Asked, asked, chosen_range, chosen_leaves, outbound-lowering, inbound-lowering, equal_width_lem, other_width_lem, lowered_turns, outbound-lowering_own, inbound-lowering_own}

module _ (s : Timed) (fit : Fit s) (rising : Rising s) where
  pub equal_bands : Bands s (offset s (reference s)) (equal_width s) (equal_width s)
  equal_bands =
      let v = equal_width_lem s fit in
      let lacks = halves s - B⁺ s in
      bands s fit rising (offset s (reference s)) (λ j. 0) (λ j. record { p = 0; q = 0; eq = omega arith }) (equal_width s) (equal_width s) lacks lacks (omega (arith, B⁺_le s fit)) (omega (arith, B⁺_le s fit)) (λ some. omega arith) (λ some. omega arith) (omega arith) room room
    where
      room : (j : ℕ) → j < s.signals → 0 < s.red j → Room s (equal_width s) (halves s - B⁺ s) j 0 0
      room j l red =
          let u = chosen_leaves s fit j l red in
          let m = chosen_range s fit j in
          record { before = omega (arith, equal_width_lem s fit); after = omega arith }

  module _ (w : ℕ) (range : in_range s w ≡ true) where
    ask : Asked s w
    ask = asked s fit w range

    most : w ≤ halves s
    most = omega (arith, ask.fits 0 fit.some)

    other_most : other_width s w ≤ halves s
    other_most = omega (arith, other_width_lem s fit w, B⁺_le s fit, ask.reaches)

    -- what the other direction lacks
    lacks : ℕ
    lacks = 2 * halves s + w - 2 * B⁺ s

    pub outbound_bands : Bands s (lowered s (outbound_lowering s w)) w (other_width s w)
    unfolding lacks
    outbound_bands =
        let v = other_width_lem s fit w in
        let o = outbound-lowering_own s fit w ask in
        bands s fit rising (lowered s (outbound_lowering s w)) (outbound_lowering s w) (lowered_turns s fit (outbound_lowering s w)) w (other_width s w) 0 lacks most other_most (λ some. omega arith) (λ some. omega arith) (omega arith)
        (λ j l red.
        let u = chosen_leaves s fit j l red in
        let δ = outbound-lowering s fit w j red in
        record { before = omega (arith, ask.fits j l); after = omega arith })
        (λ j l red.
        let u = chosen_leaves s fit j l red in
        let δ = outbound-lowering s fit w j red in
        let m = chosen_range s fit j in
        record { before = omega arith; after = omega arith })

    pub inbound_bands : Bands s (lowered s (inbound_lowering s w)) (other_width s w) w
    unfolding lacks
    inbound_bands =
        let v = other_width_lem s fit w in
        let o = inbound-lowering_own s fit w ask in
        bands s fit rising (lowered s (inbound_lowering s w)) (inbound_lowering s w) (lowered_turns s fit (inbound_lowering s w)) (other_width s w) w lacks 0 other_most most (λ some. omega arith) (λ some. omega arith) (omega arith)
        (λ j l red.
        let u = chosen_leaves s fit j l red in
        let δ = inbound-lowering s fit w j red in
        let m = chosen_range s fit j in
        record { before = omega (arith, ask.reaches); after = omega arith })
        (λ j l red.
        let δ = inbound-lowering s fit w j red in
        let m = chosen_range s fit j in
        record { before = omega arith; after = omega (arith, ask.fits j l) })
