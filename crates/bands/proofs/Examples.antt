-- Measures worked out. On small cycles the definition computes, instant by instant: a table of them, with ties, a street with no band and refusals; and signals that rest. Row 14
-- of document 01 has a cycle of 200 halves; there the stretches from 0 and from each direction's two candidates are worked out, and the best of them is the band. Assumes nothing.
use Rattle.std.specs.Prelude.{Ok}
use Prim.Native.Nat.{ℕ, zero, suc, ◌*◌, ◌≤◌, ◌<◌}
use mathlib.Core.Path.{◌≡◌, refl, sym, ap, ◌∙◌}
use mathlib.Core.List.{List, [], ◌∷◌, map}
use native.Mathlib.Omega.{arith}
use lib.ListN.{get_or}
use Rattle.circle.specs.Over.{sum_below, first_below, all_below}
use Rattle.circle.specs.Method.{Timed, red_start}
use Rattle.circle.specs.Bands.{Way, greatest_up_to, clear, stretch, width, band_start, outbound_way, inbound_way}
use Rattle.circle.proofs.Numbers.Over.{min_below}
use Rattle.circle.proofs.Stretches.{Proper, longest-least, end_at, from, IsBand, NoWorse, best_band}
use Rattle.street.specs.Lists.{Lists, typed}
use Rattle.street.specs.Checks.{count_check, cycle_check, red_check, distance_check, speed_check}
use Rattle.street.specs.Streets.{timed}
use Rattle.stretches.specs.declared.Band.{Band}
use Rattle.bands.specs.Measure.{BandNumbers, band_numbers, size_check, offset_check, measure_checks, measured_of, measurement_of}
use Rattle.street.specs.Verdicts.{answered}
pub mod Ends

-- a width and its start
abbrev band : ℕ → ℕ → Band
band width start = record { width = width; start = start }

abbrev found : Band → Band → BandNumbers
found outbound inbound = record { code = 0; place = 0; outbound = outbound; inbound = inbound }

abbrev refused : ℕ → ℕ → BandNumbers
refused code place = record { code = code; place = place; outbound = band 0 0; inbound = band 0 0 }

-- a street's lists, offsets, and the numbers that they are answered with
record Row : Type 0 where
  lists : Lists
  offsets : List ℕ
  numbers : BandNumbers

-- two signals with one red, one length of link and one speed either way, on a cycle of 10 ticks
abbrev pair : ℕ → ℕ → Lists
pair red link = typed 10 (red ∷ red ∷ []) (0 ∷ link ∷ []) (1000 ∷ []) (1000 ∷ [])

rows : List Row
rows =
    record { lists = pair 5 50; offsets = 0 ∷ 2 ∷ []; numbers = found (band 10 5) (band 6 7) }
    ∷ record { lists = pair 2 1000; offsets = 0 ∷ 10 ∷ []; numbers = found (band 6 2) (band 6 2) }
    ∷ record { lists = pair 9 1000; offsets = 0 ∷ 10 ∷ []; numbers = found (band 0 0) (band 0 0) }
    ∷ record { lists = pair 5 50; offsets = 0 ∷ 20 ∷ []; numbers = refused 10 2 }
    ∷ record { lists = pair 10 50; offsets = 0 ∷ 20 ∷ []; numbers = refused 5 1 }
    ∷ record { lists = typed 0 (5 ∷ []) (0 ∷ []) [] []; offsets = 0 ∷ 2 ∷ []; numbers = refused 2 0 }
    ∷ []

answers : map (λ (r : Row). band_numbers (measurement_of r.lists r.offsets)) rows ≡ map (λ (r : Row). r.numbers) rows
unfolding rows measure_checks count_check size_check cycle_check red_check distance_check speed_check offset_check first_below sum_below width band_start greatest_up_to all_below stretch clear red_start
answers = refl

-- two signals with given reds on a cycle of 5 ticks, with times of 1 outbound and 2 inbound
abbrev near : ℕ → ℕ → Timed
near red red' =
    record {
      cycle = 5;
      signals = 2;
      red = λ j. get_or (red ∷ red' ∷ []) j 0;
      outbound = λ j. j;
      inbound = λ j. 2 * j;
    }

-- with no red either band is the whole cycle from 0, whatever the offsets are
both_rest : measured_of (near 0 0) (3 ∷ 8 ∷ []) ≡ record { outbound = band 10 0; inbound = band 10 0 }
unfolding width band_start greatest_up_to all_below stretch clear first_below red_start
both_rest = refl

-- a red of 2 ticks around 0 ends at 2, which inbound is seen at 8, and leaves 6 either way. Signal 2 rests at 9, which outbound is seen at 7: as a limit it would leave 5 from 2, and
-- inbound 5 from 9
one_rests : measured_of (near 2 0) (0 ∷ 9 ∷ []) ≡ record { outbound = band 6 2; inbound = band 6 8 }
unfolding width band_start greatest_up_to all_below stretch clear first_below red_start
one_rests = refl

-- row 14: street A at 0, 10
abbrev street_A : Lists
street_A = typed 100 (40 ∷ 50 ∷ []) (0 ∷ 30000 ∷ []) (10000 ∷ []) (15000 ∷ [])

abbrev offsets_A : List ℕ
offsets_A = 0 ∷ 10 ∷ []

abbrev out_A : Way
out_A = outbound_way (timed street_A) (λ j. get_or offsets_A j 0)

abbrev in_a : Way
in_a = inbound_way (timed street_A) (λ j. get_or offsets_A j 0)

-- what holds of both signals holds of each
of_two : (P : ℕ → Type 0) → P 0 → P 1 → (j : ℕ) → j < 2 → P j
of_two P first second zero l = first
of_two P first second (suc zero) l = second
of_two P first second (suc (suc j)) l = absurd (omega arith)

-- either way, no red is longer than the cycle
reds_fit : (j : ℕ) → j < 2 → 2 * get_or (40 ∷ 50 ∷ []) j 0 ≤ 200
reds_fit = of_two (λ j. 2 * get_or (40 ∷ 50 ∷ []) j 0 ≤ 200) (omega arith) (omega arith)

-- a candidate has the least that a red leaves of the cycle: outbound the first has 60 from 40, and the second nothing from 0
out_band : IsBand out_A 60 40
unfolding red_start sum_below min_below
out_band =
    let proper : Proper out_A = record { turns = omega arith; fits = reds_fit } in
    let first : from out_A 0 ≡ 60 = longest-least out_A proper 40 in
    let second : from out_A 1 ≡ 0 = longest-least out_A proper 0 in
    best_band out_A proper 60 40
    (record {
      below = omega arith;
      as_long = first;
      at_zero = (omega arith, λ e. omega arith);
      each = of_two (λ i. 0 < out_A.length i → NoWorse 60 40 (from out_A i) (end_at out_A i)) (λ red. (omega arith, λ e. omega arith)) (λ red. (omega arith, λ e. omega arith));
    })

-- inbound the first has nothing from 0, and the second 60 from 60
in_band : IsBand in_a 60 60
unfolding red_start sum_below min_below
in_band =
    let proper : Proper in_a = record { turns = omega arith; fits = reds_fit } in
    let first : from in_a 0 ≡ 0 = longest-least in_a proper 0 in
    let second : from in_a 1 ≡ 60 = longest-least in_a proper 60 in
    best_band in_a proper 60 60
    (record {
      below = omega arith;
      as_long = second;
      at_zero = (omega arith, λ e. omega arith);
      each = of_two (λ i. 0 < in_a.length i → NoWorse 60 60 (from in_a i) (end_at in_a i)) (λ red. (omega arith, λ e. omega arith)) (λ red. (omega arith, λ e. omega arith));
    })

checks_pass : measure_checks street_A offsets_A ≡ (Ok tt)
unfolding measure_checks count_check size_check cycle_check red_check distance_check speed_check offset_check first_below
checks_pass = refl

pub row14 : band_numbers (measurement_of street_A offsets_A) ≡ found (band 60 40) (band 60 60)
row14 =
    ap (λ v. band_numbers (answered v (measured_of (timed street_A) offsets_A))) checks_pass
    ∙ (λ i.
    found
    (band (sym out_band.wide i) (sym out_band.starts i))
    (band (sym in_band.wide i) (sym in_band.starts i)))
