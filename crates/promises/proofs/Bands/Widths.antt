-- From the working form of stretches to measured widths: a width that some stretch has and none exceeds is the measured one. Each is said of any lags through a street, so of both
-- directions. Assumes nothing.
use Prim.Native.Nat.{ℕ, ◌≤◌, ◌<◌}
use mathlib.Core.Path.{◌≡◌}
use native.Mathlib.Omega.{arith}
use native.Mathlib.Nat.{le_antisymm}
use Rattle.circle.specs.Method.{Timed, halves, reference, red_end, red_start}
use Rattle.circle.specs.Bands.{Way, width, outbound_way, inbound_way}
use Rattle.circle.proofs.Stretches.{Passes, where_some, along, Proper, proper_way, width_ge, band_starts}
use Rattle.circle.proofs.Formulas.{Fit}
use Rattle.circle.proofs.Bands.{Bounded, Named, Bands, meets, longest_both}

module _ (w : Way) (proper : Proper w) where
  -- no stretch longer than v, no band wider
  pub width-most : (v : ℕ) → ((x k : ℕ) → Passes w x k → k ≤ v) → width w ≤ v
  width-most v most = where_some (width w) v (λ some. most _ (width w) (band_starts w proper some).passes)

  -- a band that is open is a stretch
  pub width_passes : 1 ≤ width w → (x : ℕ) × Passes w x (width w)
  width_passes some = (_, (band_starts w proper some).passes)

  -- a stretch is no longer than the band
  pub width-least : (x k : ℕ) → Passes w x k → k ≤ width w
  width-least x k ok = width_ge w proper x k ok

module _ (s : Timed) (ok : Fit s) (f : ℕ → ℕ) {lag : ℕ → ℕ} where
  -- no stretch through a street is longer than the band, and no named band wider
  pub stretch-least : (x k : ℕ) → Passes (along (outbound_way s f) lag) x k → k ≤ width (along (outbound_way s f) lag)
  stretch-least =
      width-least (along (outbound_way s f) lag) (proper_way s f ok)

  pub named_least : (c instant a v : ℕ) → Named (along (outbound_way s f) lag) c instant a v → v ≤ width (along (outbound_way s f) lag)
  named_least c instant a v named =
      where_some v (width (along (outbound_way s f) lag))
      (λ some.
      let (x, l, at_c) = meets (along (outbound_way s f) lag) c instant a (omega (arith, ok.turns)) in
      stretch-least x v (named.passes x at_c some))

  -- a named band that no stretch exceeds is the measured one
  pub named_width : (c instant a v : ℕ) → Named (along (outbound_way s f) lag) c instant a v → ((x k : ℕ) → Passes (along (outbound_way s f) lag) x k → k ≤ v) → width (along (outbound_way s f) lag) ≡ v
  named_width c instant a v named most =
      le_antisymm (width-most (along (outbound_way s f) lag) (proper_way s f ok) v most) (named_least c instant a v named)

  -- lags that have a like for each stretch have a band as wide
  pub as_wide :
      {lag' : ℕ → ℕ} → ((x k : ℕ) → Passes (along (outbound_way s f) lag') x k → (y : ℕ) × (y < halves s) × Passes (along (outbound_way s f) lag) y k) →
      width (along (outbound_way s f) lag') ≤ width (along (outbound_way s f) lag)
  as_wide {lag'} like =
      width-most (along (outbound_way s f) lag') (proper_way s f ok) (width (along (outbound_way s f) lag))
      (λ x k p. let (y, l, q) = like x k p in stretch-least y k q)

-- a plan's two named bands are the measured ones
pub bands_measured : (s : Timed) → Fit s → Bounded s → (f : ℕ → ℕ) (v v' : ℕ) → Bands s f v v' → (width (outbound_way s f) ≡ v) × (width (inbound_way s f) ≡ v')
bands_measured s ok two f v v' named =
    let c = reference s in
    let most = longest_both s two f named.x named.y v v' named.lack named.lack' named.out_spans named.back_spans named.all in
    (named_width s ok f c (red_end s c (f c)) 0 v named.out most.0, named_width s ok f c (red_start s c (f c)) v' v' named.back most.1)
