-- Offsets that agree with a plan's at every signal, as those of the list that a call leaves do: the same departures pass under both, so they have the plan's named bands. Assumes nothing.
use Prim.Native.Nat.{ℕ, ◌+◌, ◌*◌, ◌≤◌, ◌<◌}
use mathlib.Core.Path.{◌≡◌, sym, subst}
use native.Mathlib.Omega.{arith}
use lib.IntN.{pos, ◌-ℤ◌}
use Rattle.circle.specs.Man.{man}
use Rattle.circle.specs.Method.{Timed, halves, reference, red_end, red_start}
use Rattle.circle.specs.Bands.{way_through, outbound_way, inbound_way}
use Rattle.circle.proofs.Formulas.{reference_lt}
use Rattle.circle.proofs.Stretches.{Spans, spans}
use Rattle.circle.proofs.Bands.{Named, Bands}

module _ (s : Timed) (f g : ℕ → ℕ) (same : (j : ℕ) → j < s.signals → g j ≡ f j) where
  spans_same : {lag : ℕ → ℕ} (x v lack : ℕ) → Spans (way_through s f lag) x v lack → Spans (way_through s g lag) x v lack
  spans_same {lag} x v lack stretch =
      record { most = stretch.most; each = λ j l r. subst (λ (z : ℕ). man (halves s) (pos (x + lag j) -ℤ pos (red_start s j z + 2 * s.red j)) + v + 2 * s.red j ≤ halves s + lack) (sym (same j l)) (stretch.each j l r) }

  named_same : {lag : ℕ → ℕ} (c instant a v : ℕ) → Named (way_through s f lag) c instant a v → Named (way_through s g lag) c instant a v
  named_same c instant a v named =
      record {
        passes =
            λ x at_c some.
            let p = named.passes x at_c some in
            record { most = p.most; each = λ j l r. omega (arith, (spans_same x v 0 (spans p)).each j l r) };
      }

  pub bands_same : 0 < s.signals → (v v' : ℕ) → Bands s f v v' → Bands s g v v'
  bands_same some v v' named =
      let c = reference s in
      let own = sym (same c (reference_lt s some)) in
      record {
        lack = named.lack;
        lack' = named.lack';
        x = named.x;
        y = named.y;
        out = subst (λ (z : ℕ). Named (outbound_way s g) c (red_end s c z) 0 v) own (named_same c (red_end s c (f c)) 0 v named.out);
        back = subst (λ (z : ℕ). Named (inbound_way s g) c (red_start s c z) v' v') own (named_same c (red_start s c (f c)) v' v' named.back);
        out_spans = spans_same named.x v named.lack named.out_spans;
        back_spans = spans_same named.y v' named.lack' named.back_spans;
        all = named.all;
      }
