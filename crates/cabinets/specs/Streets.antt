-- Streets on which whole seconds cost all that is promised (02, 2026-06), so that nobody could promise less. One loses 19 halves of its outbound band at rounded times and m + 19 at exact ones, the other of its
-- inbound band; and at either end of either band a departure one half nearer than is promised meets a red, at rounded times and at exact ones.
use Rattle.std.specs.Prelude.{ℕ, ◌+◌, ◌*◌, ◌≡◌, List, [], ◌∷◌, pos}
use Rattle.circle.specs.Bands.{width}
use Rattle.street.specs.Lists.{Lists}
use Rattle.widths.specs.declared.Request.TheVariants.{Equal}
use Rattle.promises.specs.Exact.{Fine, rounded_ways, exact_ways}
use Rattle.promises.specs.Rows.{two_signals, plan}
use Rattle.promises.specs.Witnesses.{RedAtStart, RedAtEnd}
use Rattle.cabinets.specs.Calls.{seconds_answer, seconds_after}
use Rattle.cabinets.specs.Kept.{kept_offset}

-- 2,850 mm at 1,000 mm/s take 28 1/2 ticks, rounded to 29: m is 1, and in halves the exact time is whole
abbrev pub outward : Lists
outward = two_signals 30 9 10 0 2850 1000 1000

abbrev pub inward : Lists
inward = two_signals 30 10 9 0 2850 1000 1000

-- the offsets that the cabinets keep, in a unit of which one makes a half
abbrev pub kept_by : Lists → List ℕ → ℕ → ℕ
kept_by l seconds j = 1 * kept_offset l seconds j

-- the starts of green at 9 and 10 become 0 and 20: of the 39 halves outbound 20 are left at rounded times, and 19 at exact ones
abbrev pub OutwardLoses : Type 0
OutwardLoses =
    let f = kept_by outward (0 ∷ 1 ∷ []) in
    let w = (rounded_ways outward 1).outbound f in
    let z = (exact_ways outward 1).outbound f in
    (seconds_answer Equal outward 2 ≡ plan 2 (pos 39) 39 39 1 10 50)
    × (seconds_after Equal outward (7 ∷ 7 ∷ []) ≡ 0 ∷ 1 ∷ [])
    × (width w + 19 ≡ 39)
    × RedAtStart 1 w 1 10 0 10 21
    × RedAtEnd 1 w 1 10 0 39 9 42
    × Fine outward 1
    × (width z + (1 + 19) ≡ 39)
    × RedAtEnd 1 z 1 10 0 39 (1 + 9) 42

-- and inbound with the reds exchanged, where the departure 10 halves after the start meets a red at exact times
abbrev pub InwardLoses : Type 0
InwardLoses =
    let f = kept_by inward (1 ∷ 0 ∷ []) in
    let w = (rounded_ways inward 1).inbound f in
    let z = (exact_ways inward 1).inbound f in
    (seconds_answer Equal inward 2 ≡ plan 2 (pos 39) 39 39 1 9 51)
    × (seconds_after Equal inward (7 ∷ 7 ∷ []) ≡ 1 ∷ 0 ∷ [])
    × (width w + 19 ≡ 39)
    × RedAtStart 1 w 1 51 39 10 21
    × RedAtEnd 1 w 1 51 39 39 9 42
    × Fine inward 1
    × (width z + (1 + 19) ≡ 39)
    × RedAtStart 1 z 1 51 39 (1 + 10) 22

-- and at the two other ends, at exact times: with both reds of 10 a departure 10 halves after the outbound band's start meets a red, and with both of 9 one 10 halves before the inbound band's end; 2,950 mm take
-- 29 1/2 ticks, rounded to 30
abbrev pub tens : Lists
tens = two_signals 30 10 10 0 2950 1000 1000

abbrev pub nines : Lists
nines = two_signals 30 9 9 0 2950 1000 1000

abbrev pub OtherEnds : Type 0
OtherEnds =
    (seconds_answer Equal tens 2 ≡ plan 1 (pos 40) 40 40 1 10 50)
    × (seconds_after Equal tens (7 ∷ 7 ∷ []) ≡ 1 ∷ 1 ∷ [])
    × Fine tens 1
    × RedAtStart 1 ((exact_ways tens 1).outbound (kept_by tens (1 ∷ 1 ∷ []))) 0 10 0 (1 + 10) 20
    × (seconds_answer Equal nines 2 ≡ plan 1 (pos 42) 42 42 1 9 51)
    × (seconds_after Equal nines (7 ∷ 7 ∷ []) ≡ 0 ∷ 0 ∷ [])
    × Fine nines 1
    × RedAtEnd 1 ((exact_ways nines 1).inbound (kept_by nines (0 ∷ 0 ∷ []))) 0 51 42 42 (1 + 9) 42
