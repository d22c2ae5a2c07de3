-- Streets that show why no more is promised: they attain the bounds on what rounding costs, and one has a measured band that is not the named one (01, 'Moving width').
use Rattle.std.specs.Prelude.{ℕ, ◌+◌, ◌*◌, ◌≡◌, false, List, [], ◌∷◌, pos, get_or, Ok}
use Rattle.circle.specs.Method.{reference, offset, equal_width, red_end, red_start}
use Rattle.circle.specs.Bands.{Way, clear, width, inbound_way}
use Rattle.street.specs.Lists.{Lists}
use Rattle.street.specs.Checks.{plan_checks}
use Rattle.street.specs.Streets.{timed, m}
use Rattle.widths.specs.declared.Request.TheVariants.{Outbound}
use Rattle.plans.specs.Requests.{request_answer, request_after}
use Rattle.bands.specs.Measure as bands
use Rattle.promises.specs.Exact.{Fine, exact_ways}
use Rattle.promises.specs.Replies.{into_band}
use Rattle.promises.specs.Rows.{two_signals, plan}

-- a street that passes the checks, has one rounded link, and has whole exact times in a unit of N to the half
abbrev pub RoundedOnce : Lists → ℕ → Type 0
RoundedOnce l N = (plan_checks l 2 ≡ (Ok tt)) × (m l ≡ 1) × Fine l N

-- the equal plan's offsets, in the unit
abbrev pub own_offsets : Lists → ℕ → ℕ → ℕ
own_offsets l N j = N * offset (timed l) (reference (timed l)) j

-- 1. Some offsets make both exact bands wider than the equal width by m halves: here 7 where that width is 6, with offsets 0, 0
abbrev pub gains : Lists
gains = two_signals 10 6 4 3350 3800 3000 3000

abbrev pub WiderByM : Type 0
WiderByM =
    RoundedOnce gains 1
    × (equal_width (timed gains) ≡ 6)
    × (width ((exact_ways gains 1).outbound (λ j. 0)) ≡ 6 + m gains)
    × (width ((exact_ways gains 1).inbound (λ j. 0)) ≡ 6 + m gains)

-- 2. Under the equal plan's offsets both exact bands may fall short of the equal width by m halves: here 17 where that width is 18
abbrev pub loses : Lists
loses = two_signals 10 1 1 0 450 1000 1000

abbrev pub ShortByM : Type 0
ShortByM =
    RoundedOnce loses 1
    × (equal_width (timed loses) ≡ 18)
    × (width ((exact_ways loses 1).outbound (own_offsets loses 1)) + m loses ≡ 18)
    × (width ((exact_ways loses 1).inbound (own_offsets loses 1)) + m loses ≡ 18)

-- 3. A departure that is one unit less than m halves after the start of a named band, or m halves before its end and not more, may meet a red
abbrev pub RedAtStart : ℕ → Way → ℕ → ℕ → ℕ → ℕ → ℕ → Type 0
RedAtStart N w c instant before r x = (into_band N w c instant before x + 1 ≡ N * r) × (clear w x ≡ false)

abbrev pub RedAtEnd : ℕ → Way → ℕ → ℕ → ℕ → ℕ → ℕ → ℕ → Type 0
RedAtEnd N w c instant before v r x = (into_band N w c instant before x + N * r ≡ N * v) × (clear w x ≡ false)

-- where the equal plan's named bands start and end at c
abbrev pub own_starts : Lists → ℕ
own_starts l = let c = reference (timed l) in red_end (timed l) c (offset (timed l) c c)

abbrev pub own_ends : Lists → ℕ
own_ends l = let c = reference (timed l) in red_start (timed l) c (offset (timed l) c c)

-- the street of 2 does so at the outbound start and the inbound end, in hundredths of a half, and this one at the inbound start and the outbound end
abbrev pub loses_too : Lists
loses_too = two_signals 10 1 1 0 250 1000 1000

abbrev pub RedWithinM : Type 0
RedWithinM =
    let v = equal_width (timed loses) in
    let v' = equal_width (timed loses_too) in
    RoundedOnce loses 100
    × RoundedOnce loses_too 100
    × RedAtStart 100 ((exact_ways loses 100).outbound (own_offsets loses 100)) (reference (timed loses)) (own_starts loses) 0 (m loses) 199
    × RedAtEnd 100 ((exact_ways loses 100).inbound (own_offsets loses 100)) (reference (timed loses)) (own_ends loses) v v (m loses) 900
    × RedAtStart 100 ((exact_ways loses_too 100).inbound (own_offsets loses_too 100)) (reference (timed loses_too)) (own_ends loses_too) v' (m loses_too) 599
    × RedAtEnd 100 ((exact_ways loses_too 100).outbound (own_offsets loses_too 100)) (reference (timed loses_too)) (own_starts loses_too) 0 v' (m loses_too) 900

-- 4. A measured band may be another stretch as long as the named one: the plan for 16 outbound has a named inbound band of 6, `measure` finds one of 6 that starts at 7 at signal 2, and the
-- departure at 7 comes by at c 10 halves after the named band's start
abbrev pub elsewhere : Lists
elsewhere = two_signals 10 2 2 0 10000 5000 20000

abbrev pub MeasuredElsewhere : Type 0
MeasuredElsewhere =
    let f : List ℕ = 15 ∷ 15 ∷ [] in
    (request_answer (Outbound 16) elsewhere 2 ≡ plan 1 (pos 11) 16 6 0 17 13)
    × (request_after (Outbound 16) elsewhere (7 ∷ 7 ∷ []) ≡ f)
    × (bands.band_numbers (bands.measurement_of elsewhere f) ≡ record { code = 0; place = 0; outbound = record { width = 16; start = 17 }; inbound = record { width = 6; start = 7 } })
    × (into_band 1 (inbound_way (timed elsewhere) (λ j. get_or f j 0)) 0 13 6 7 ≡ 10)
