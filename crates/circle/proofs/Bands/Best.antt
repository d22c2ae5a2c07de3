-- No offsets do better than a plan. Two bands never exceed 2B together, so beside one of w or more the other is at most what is left of 2B, whichever direction has w. And two stretches of
-- signed length that make up 2B, as a plan's do, are each the longest of their direction, since a longer one would exceed 2B with the other. Assumes nothing.
use Prim.Native.Nat.{ℕ, ◌+◌, ◌*◌, ◌≤◌}
use mathlib.Core.Path.{◌≡◌}
use native.Mathlib.Omega.{arith}
use Rattle.circle.specs.Method.{Timed, halves}
use Rattle.circle.specs.Bands.{outbound_way, inbound_way}
use Rattle.circle.specs.Moved.{other_width}
use Rattle.circle.proofs.Formulas.Raised.{Fit, B⁺}
use Rattle.circle.proofs.Stretches.Arcs.{Passes, Spans, spans, where_some}
use Rattle.circle.proofs.Bands.Bound.{Bounded}
use Rattle.circle.proofs.Formulas.Moving.{other_width_lem}

module _ (s : Timed) (fit : Fit s) (two : Bounded s) where
  -- of two bands one of w or more leaves the other what is left of 2B
  module _ (f : ℕ → ℕ) (w v v' : ℕ) (some : 1 ≤ w) (out : 1 ≤ v → (x : ℕ) × Passes (outbound_way s f) x v) (back : 1 ≤ v' → (y : ℕ) × Passes (inbound_way s f) y v') where
    together : 1 ≤ v → 1 ≤ v' → v + v' + 2 * halves s ≤ 2 * B⁺ s
    together l l' =
        let (x, p) = out l in
        let (y, q) = back l' in
        omega (arith, two f x y v v' 0 0 (spans p) (spans q))

    pub beside : (w ≤ v → v' ≤ other_width s w) × (w ≤ v' → v ≤ other_width s w)
    beside =
        let is = other_width_lem s fit w in (
          λ l. where_some v' (other_width s w) (λ l'. omega (arith, together (omega arith) l')),
          λ l'. where_some v (other_width s w) (λ l. omega (arith, together l (omega arith))),
        )

-- two stretches of signed length that make up 2B are the longest of their directions: no departures pass beyond them
pub longest_both :
    (s : Timed) → Bounded s → (f : ℕ → ℕ) (x y v v' lack lack' : ℕ) → Spans (outbound_way s f) x v lack → Spans (inbound_way s f) y v' lack' → v + v' + 2 * halves s ≡ 2 * B⁺ s + (lack + lack') →
    ((z k : ℕ) → Passes (outbound_way s f) z k → k ≤ v) × ((z k : ℕ) → Passes (inbound_way s f) z k → k ≤ v')
longest_both s two f x y v v' lack lack' out back all =
    (λ z k p. omega (arith, two f z y k v' 0 lack' (spans p) back), λ z k p. omega (arith, two f x z v k lack 0 out (spans p)))
