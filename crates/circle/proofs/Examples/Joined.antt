-- Joined streets worked out: the method's example of three signals, with one that rests before the first and one between the first and the second. Assumes nothing.
use Prim.Native.Nat.{ℕ, zero, suc, ◌+◌, ◌*◌, ◌/◌, ◌<◌}
use mathlib.Core.Path.{◌≡◌, refl}
use mathlib.Core.List.{[], ◌∷◌}
use native.Mathlib.Omega.{arith}
use lib.IntN.{pos}
use lib.ListN.{get_or}
use Rattle.circle.specs.Over.{first_below, all_below, over_below, list_below}
use Rattle.circle.specs.Method.{Timed, u, pair_width, b, B, reference, phase, offset, red_start}
use Rattle.circle.specs.Bands.{greatest_up_to, clear, stretch, width, outbound_way, inbound_way}
use Rattle.circle.proofs.Formulas.Joined.{JoinedAt}
use Rattle.circle.proofs.Examples.Method.{three}

abbrev five : Timed
five =
    record {
      cycle = 10;
      signals = 5;
      red = λ j. get_or (0 ∷ 4 ∷ 0 ∷ 5 ∷ 6 ∷ []) j 0;
      outbound = λ j. get_or (0 ∷ 6 ∷ 7 ∷ 8 ∷ 11 ∷ []) j 0;
      inbound = λ j. get_or (0 ∷ 4 ∷ 6 ∷ 7 ∷ 8 ∷ []) j 0;
    }

-- where the three stand: second, fourth and fifth
abbrev place : ℕ → ℕ
place k = (3 * k + 3) / 2

each : (P : ℕ → Type 0) → P 0 → P 1 → P 2 → (k : ℕ) → k < 3 → P k
each P p q r zero l = p
each P p q r (suc zero) l = q
each P p q r (suc (suc zero)) l = r
each P p q r (suc (suc (suc k))) l = absurd (omega arith)

every : (j : ℕ) → j < 5 → 0 < five.red j → (k : ℕ) × (k < 3) × (place k ≡ j)
every zero l red = absurd (omega arith)
every (suc zero) l red = (0, omega arith, refl)
every (suc (suc zero)) l red = absurd (omega arith)
every (suc (suc (suc zero))) l red = (1, omega arith, refl)
every (suc (suc (suc (suc zero)))) l red = (2, omega arith, refl)
every (suc (suc (suc (suc (suc j))))) l red = absurd (omega arith)

joined : JoinedAt five three place
joined =
    record {
      cycle = refl;
      some = omega arith;
      below = λ k l. omega arith;
      rising = λ i k m l. omega arith;
      every = every;
      red = each (λ k. three.red k ≡ five.red (place k)) refl refl refl;
      out = 6;
      outbound = each (λ k. five.outbound (place k) ≡ three.outbound k + 6) refl refl refl;
      back = 4;
      inbound = each (λ k. five.inbound (place k) ≡ three.inbound k + 4) refl refl refl;
    }

-- the numbers of the three, each in its place. The first signal's b is B too, but it rests and is no candidate
bs : list_below 5 (b five) ≡ pos 5 ∷ pos 1 ∷ pos 3 ∷ pos 5 ∷ pos 3 ∷ []
unfolding list_below b pair_width u over_below all_below
bs = refl

greatest : B five ≡ pos 5
unfolding B b pair_width u over_below all_below
greatest = refl

offsets : reference five ∷ list_below 5 (offset five 3) ≡ 3 ∷ 19 ∷ 11 ∷ 0 ∷ 0 ∷ 2 ∷ []
unfolding list_below reference first_below B b offset phase pair_width u over_below all_below
offsets = refl

bands : width (outbound_way five (offset five 3)) ∷ width (inbound_way five (offset five 3)) ∷ [] ≡ 5 ∷ 5 ∷ []
unfolding width greatest_up_to stretch clear all_below red_start offset phase pair_width u
bands = refl
