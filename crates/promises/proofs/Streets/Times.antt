-- The signed times between two signals are the sums of the link times between them, with document 01's signs. Assumes nothing.
use Prim.Native.Nat.{ℕ, zero, suc, ◌+◌}
use mathlib.Core.Path.{◌≡◌, sym, ap, ◌∙◌}
use native.Mathlib.Omega.{arith}
use lib.IntN.{pos, neg_ℤ, ◌-ℤ◌}
use Rattle.circle.specs.Over.{sum_below}
use Rattle.circle.proofs.Numbers.{sum_more, pos_minus, pos_sub, sub_eq, neg_sub}
use Rattle.circle.specs.Method.{t, t'}
use Rattle.road.specs.Times.{link_ticks}
use Rattle.street.specs.Lists.{Lists}
use Rattle.street.specs.Streets.{timed}

-- a sum splits at any index
split : (f : ℕ → ℕ) (i k : ℕ) → sum_below (i + k) f ≡ sum_below i f + sum_below k (λ q. f (i + q))
unfolding sum_below
split f i zero = let e : i + 0 ≡ i = omega arith in ap (λ (n : ℕ). sum_below n f) e ∙ omega arith
split f i (suc k) =
    let e : i + suc k ≡ (i + k) + 1 = omega arith in
    ap (λ (n : ℕ). sum_below n f) e ∙ sum_more (i + k) f ∙ omega (arith, split f i k)

forwards : (f : ℕ → ℕ) (i k : ℕ) → pos (sum_below (i + k) f) -ℤ pos (sum_below i f) ≡ pos (sum_below k (λ q. f (i + q)))
forwards f i k =
    pos_minus (sum_below (i + k) f) (sum_below i f)
    ∙ sub_eq (sum_below (i + k) f) (sum_below i f) (sum_below k (λ q. f (i + q))) 0 (omega (arith, split f i k))
    ∙ sym (pos_sub (sum_below k (λ q. f (i + q))))

backwards : (f : ℕ → ℕ) (i k : ℕ) → pos (sum_below i f) -ℤ pos (sum_below (i + k) f) ≡ neg_ℤ (pos (sum_below k (λ q. f (i + q))))
backwards f i k =
    pos_minus (sum_below i f) (sum_below (i + k) f)
    ∙ sym (neg_sub (sum_below (i + k) f) (sum_below i f))
    ∙ ap neg_ℤ (sym (pos_minus (sum_below (i + k) f) (sum_below i f)) ∙ forwards f i k)

-- between signals i and i + k outbound the sum of the link times between them, backwards its negative; and inbound the other way round
pub signed_times :
    (l : Lists) (i k : ℕ) →
    (t (timed l) i (i + k) ≡ pos (sum_below k (λ q. link_ticks l.distances l.outbound (i + q))))
    × (t (timed l) (i + k) i ≡ neg_ℤ (pos (sum_below k (λ q. link_ticks l.distances l.outbound (i + q)))))
    × (t' (timed l) i (i + k) ≡ neg_ℤ (pos (sum_below k (λ q. link_ticks l.distances l.inbound (i + q)))))
    × (t' (timed l) (i + k) i ≡ pos (sum_below k (λ q. link_ticks l.distances l.inbound (i + q))))
signed_times l i k = (
  forwards (link_ticks l.distances l.outbound) i k,
  backwards (link_ticks l.distances l.outbound) i k,
  backwards (link_ticks l.distances l.inbound) i k,
  forwards (link_ticks l.distances l.inbound) i k,
)
