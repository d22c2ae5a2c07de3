-- A unit that is fine for a street: the product of all its speeds to the half. Each speed divides it, so each divides 20dN; and no speed of a street that passes the checks is 0,
-- so neither is the product. In a fine unit each link's quotient leaves no remainder. Assumes nothing.
use Prim.Native.Nat.{ℕ, zero, suc, ◌-◌, ◌*◌, ◌%◌, ◌<◌}
use mathlib.Core.Path.{◌≡◌, ap, ◌∙◌}
use mathlib.Core.Logic.{⊎_elim}
use native.Mathlib.Omega.{arith}
use native.Mathlib.Nat.{mul-lt-mul_of_pos_left, mul-mod_left, mod-add-div', eq-or-lt_of_le, le_of_suc-le-suc}
use lib.ListN.{get_or}
use Rattle.road.specs.Times.{link_length}
use Rattle.street.specs.Lists.{Lists, signals}
use Rattle.street.proofs.Passed.{in_limits}
use Rattle.promises.specs.Exact.{Fine, exact_link}
use Rattle.promises.specs.Replies.{FineExists}

-- the product of f over the indices below n
product : ℕ → (ℕ → ℕ) → ℕ
product zero f = 1
product (suc n) f = product n f * f n

product_some : (n : ℕ) (f : ℕ → ℕ) → ((k : ℕ) → k < n → 0 < f k) → 0 < product n f
unfolding product
product_some zero f some = omega arith
product_some (suc n) f some =
    let before = product_some n f (λ k h. some k (omega arith)) in
    omega (arith, mul-lt-mul_of_pos_left (some n (omega arith)) before)

-- each factor divides it
divides : (n : ℕ) (f : ℕ → ℕ) (k : ℕ) → k < n → (q : ℕ) × (product n f ≡ q * f k)
unfolding product
divides zero f k h = absurd (omega arith)
divides (suc n) f k h =
    ⊎_elim
    (λ e. (product n f, ap (λ (i : ℕ). product n f * f i) (omega (arith, e))))
    (λ m. let (q, e) = divides n f k m in (q * f n, omega (arith, ap (λ (z : ℕ). z * f n) e)))
    (eq-or-lt_of_le (le_of_suc-le-suc h))

-- a number that v divides leaves nothing, whatever it is multiplied by
none_left : (d N q v : ℕ) → N ≡ q * v → 20 * d * N % v ≡ 0
none_left d N q v e =
    let same : 20 * d * N ≡ 20 * d * q * v = omega (arith, ap (λ (z : ℕ). 20 * d * z) e) in
    ap (λ (z : ℕ). z % v) same ∙ mul-mod_left (20 * d * q) v

-- the two speeds of each link, multiplied
speeds : Lists → ℕ → ℕ
speeds l k = get_or l.outbound k 0 * get_or l.inbound k 0

pub fine_exists : FineExists
unfolding speeds
fine_exists l room passed =
    let ok = in_limits l room passed in (
      product (signals l - 1) (speeds l),
      record {
        some =
            product_some (signals l - 1) (speeds l)
            (λ k h.
            let o : 0 < get_or l.outbound k 0 = omega (arith, ok.outbound.slow k (omega (arith, ok.counts.outbound))) in
            let i : 0 < get_or l.inbound k 0 = omega (arith, ok.inbound.slow k (omega (arith, ok.counts.inbound))) in
            omega (arith, mul-lt-mul_of_pos_left i o));
        outbound =
            λ k h.
            let (q, e) = divides (signals l - 1) (speeds l) k h in
            none_left (link_length l.distances k) _ (q * get_or l.inbound k 0) (get_or l.outbound k 0) (omega (arith, e));
        inbound =
            λ k h.
            let (q, e) = divides (signals l - 1) (speeds l) k h in
            none_left (link_length l.distances k) _ (q * get_or l.outbound k 0) (get_or l.inbound k 0) (omega (arith, e));
      },
    )

-- in a fine unit nothing is cut off: on each link the exact time, times the speed, is 20dN, both ways
pub nothing_lost :
    (l : Lists) (N : ℕ) → Fine l N → (k : ℕ) → k < signals l - 1 →
    (exact_link N l.distances l.outbound k * get_or l.outbound k 0 ≡ 20 * link_length l.distances k * N)
    × (exact_link N l.distances l.inbound k * get_or l.inbound k 0 ≡ 20 * link_length l.distances k * N)
nothing_lost l N fine k h =
    let times = 20 * link_length l.distances k * N in
    (omega (arith, mod-add-div' times (get_or l.outbound k 0), fine.outbound k h), omega (arith, mod-add-div' times (get_or l.inbound k 0), fine.inbound k h))
