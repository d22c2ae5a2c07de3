-- Document 01's rows 1 to 13, its street A and its examples of rounding, a school street for 02, 2026-02, volumes for 2026-03 and resting signals for 2026-05, as one table, with what is said of each row: the answer of the row's call and the
-- list that it leaves, and where a row names an exact best, that some offsets attain it and none exceed it. Each list starts as 7, 7, 7, so that an entry that is not written shows.
use Rattle.std.specs.Prelude.{ℕ, ◌≡◌, List, [], ◌∷◌, ◌++◌, ℤ, pos, negsuc, length, Ok, Err}
use Rattle.circle.specs.Bands.{width}
use Rattle.street.specs.Lists.{Lists}
use Rattle.street.specs.declared.Code.{Code}
use Rattle.street.specs.declared.Code.TheVariants.{Platoon, Width, Volume}
use Rattle.widths.specs.declared.Request.{Request}
use Rattle.widths.specs.declared.Request.TheVariants.{Equal, Outbound, Inbound, Platoons, Volumes}
use Rattle.plans.specs.Answers.{Answer}
use Rattle.plans.specs.Requests.{request_answer, request_after}
use Rattle.widths.specs.declared.Shift.TheVariants.{Unmoved}
use Rattle.promises.specs.Exact.{Fine, exact_ways}
use Rattle.promises.specs.Replies.{NoneBetter}

-- the widest narrower band that exact times allow, where a row names it
pub data Best : Type 0 where
  unnamed : Best
  best_is : ℕ → Best

-- some offsets attain it both ways, in a unit in which a half is 1, and none exceed it, in any unit
unfoldable pub ExactBest : Lists → Best → Type 0
ExactBest l unnamed = Unit
ExactBest l (best_is v) =
    (Fine l 1 × ((f : ℕ → ℕ) × (width ((exact_ways l 1).outbound f) ≡ v) × (width ((exact_ways l 1).inbound f) ≡ v)))
    × ((N : ℕ) → Fine l N → NoneBetter Unmoved (exact_ways l N) v v 0)

-- a street and a request, with the answer and the offsets that they are to get
pub record TableRow : Type 0 where
  pub street : Lists
  pub request : Request
  pub expected : Answer
  pub offsets : List ℕ
  pub best : Best

unfoldable pub lent : List ℕ
lent = 7 ∷ 7 ∷ 7 ∷ []

-- what the contract says of the reply, and of the lent list
unfoldable pub Holds : TableRow → Type 0
Holds row =
    (request_answer row.request row.street (length lent) ≡ row.expected)
    × (request_after row.request row.street lent ≡ row.offsets)
    × ExactBest row.street row.best

unfoldable pub All : List TableRow → Type 0
All [] = Unit
All (row ∷ rows) = Holds row × All rows

-- two signals with their reds and distances, and the outbound and the inbound speed on the link between them
unfoldable pub two_signals : ℕ → ℕ → ℕ → ℕ → ℕ → ℕ → ℕ → Lists
two_signals cycle red red' at at' out back =
    record { cycle = cycle; reds = red ∷ red' ∷ []; distances = at ∷ at' ∷ []; outbound = out ∷ []; inbound = back ∷ [] }

-- two signals with equal reds and a link of some mm, at 1,000 mm/s both ways
unfoldable pub two_alike : ℕ → ℕ → ℕ → Lists
two_alike cycle red length = two_signals cycle red red 0 length 1000 1000

unfoldable pub street_A : Lists
street_A = two_signals 100 40 50 0 30000 10000 15000

-- a plan by its reference, B, outbound and inbound width, m and the named bands' instants, in that order
unfoldable pub plan : ℕ → ℤ → ℕ → ℕ → ℕ → ℕ → ℕ → Answer
plan c B out back m starts ends =
    Ok
    (record { reference = c; b = B; outbound = out; inbound = back; rounded = m; starts = starts; ends = ends })

unfoldable pub row : Lists → Request → Answer → List ℕ → TableRow
row l request expected offsets =
    record { street = l; request = request; expected = expected; offsets = offsets; best = unnamed }

-- a row that names an exact best too
unfoldable pub best_row : Lists → Request → Answer → List ℕ → ℕ → TableRow
best_row l request expected offsets v =
    record { street = l; request = request; expected = expected; offsets = offsets; best = best_is v }

unfoldable pub refusal : Code → ℕ → Answer
refusal code place = Err (record { code = code; place = place })

-- the equal plans of rows 1 to 5, 9 and street A
unfoldable pub equal_rows : List TableRow
equal_rows =
    row (record { cycle = 600; reds = 240 ∷ []; distances = 0 ∷ []; outbound = []; inbound = [] }) Equal (plan 1 (pos 720) 720 720 0 240 960) (0 ∷ 7 ∷ 7 ∷ [])
    ∷ row (two_alike 600 300 30000) Equal (plan 1 (pos 600) 600 600 0 300 900) (0 ∷ 600 ∷ 7 ∷ [])
    ∷ row (two_alike 600 300 15000) Equal (plan 1 (pos 300) 300 300 0 300 900) (0 ∷ 0 ∷ 7 ∷ [])
    ∷ row (two_alike 600 450 15000) Equal (plan 1 (pos 0) 0 0 0 450 750) (0 ∷ 0 ∷ 7 ∷ [])
    ∷ row (two_alike 600 500 15000) Equal (plan 1 (negsuc 99) 0 0 0 500 700) (0 ∷ 0 ∷ 7 ∷ [])
    ∷ best_row (two_alike 10 5 50) Equal (plan 1 (pos 8) 8 8 1 5 15) (0 ∷ 0 ∷ 7 ∷ []) 9
    ∷ row street_A Equal (plan 1 (pos 60) 60 60 0 40 160) (0 ∷ 10 ∷ 7 ∷ [])
    ∷ []

-- travel times to the nearest tick, one half up, each link by itself: 49 mm at 1,000 mm/s take no tick, 50 mm (row 9) take 1, and two links of 50 mm take 2
unfoldable pub rounding_rows : List TableRow
rounding_rows =
    row (two_alike 10 5 49) Equal (plan 1 (pos 10) 10 10 1 5 15) (0 ∷ 0 ∷ 7 ∷ [])
    ∷ row
    (record { cycle = 10; reds = 5 ∷ 5 ∷ 5 ∷ []; distances = 0 ∷ 50 ∷ 100 ∷ []; outbound = 1000 ∷ 1000 ∷ []; inbound = 1000 ∷ 1000 ∷ [] })
    Equal (plan 1 (pos 6) 6 6 2 5 15) (0 ∷ 0 ∷ 0 ∷ [])
    ∷ []

-- rows 6 to 8 and 10
unfoldable pub width_rows : List TableRow
width_rows =
    row street_A (Outbound 80) (plan 1 (pos 60) 80 40 0 20 140) (180 ∷ 10 ∷ 7 ∷ [])
    ∷ row street_A (Inbound 80) (plan 1 (pos 60) 40 80 0 40 160) (0 ∷ 190 ∷ 7 ∷ [])
    ∷ row (two_alike 600 500 15000) (Outbound 200) (plan 1 (negsuc 99) 200 0 0 200 400) (900 ∷ 0 ∷ 7 ∷ [])
    ∷ row street_A (Outbound 59) (refusal Width 0) lent
    ∷ row street_A (Outbound 60) (plan 1 (pos 60) 60 60 0 40 160) (0 ∷ 10 ∷ 7 ∷ [])
    ∷ row street_A (Outbound 100) (plan 1 (pos 60) 100 20 0 0 120) (160 ∷ 10 ∷ 7 ∷ [])
    ∷ row street_A (Outbound 101) (refusal Width 0) lent
    ∷ row (two_alike 600 500 15000) (Inbound 0) (refusal Width 0) lent
    ∷ []

-- a street with a platoon one way only: both fit into 2B = 200, and g is 400 (02, 2026-02)
unfoldable pub school_street : Lists
school_street = two_alike 600 400 15000

-- rows 11 to 13, platoons the other way round and equal ones, the school street's both ways, and the limit
unfoldable pub platoon_rows : List TableRow
platoon_rows =
    row street_A (Platoons 30 10) (plan 1 (pos 60) 90 30 0 10 130) (170 ∷ 10 ∷ 7 ∷ [])
    ∷ row street_A (Platoons 100 50) (plan 1 (pos 60) 100 20 0 0 120) (160 ∷ 10 ∷ 7 ∷ [])
    ∷ row (two_alike 600 500 15000) (Platoons 50 10) (plan 1 (negsuc 99) 200 0 0 200 400) (900 ∷ 0 ∷ 7 ∷ [])
    ∷ row street_A (Platoons 10 30) (plan 1 (pos 60) 30 90 0 40 160) (0 ∷ 180 ∷ 7 ∷ [])
    ∷ row street_A (Platoons 0 0) (plan 1 (pos 60) 60 60 0 40 160) (0 ∷ 10 ∷ 7 ∷ [])
    ∷ row school_street (Platoons 50 0) (plan 1 (pos 100) 400 0 0 100 500) (900 ∷ 0 ∷ 7 ∷ [])
    ∷ row school_street (Platoons 0 50) (plan 1 (pos 100) 0 400 0 400 800) (0 ∷ 900 ∷ 7 ∷ [])
    ∷ row street_A (Platoons 100001 100001) (refusal Platoon 1) lent
    ∷ row street_A (Platoons 100000 100001) (refusal Platoon 2) lent
    ∷ []

-- one signal on the longest cycle, 10 minutes
unfoldable pub long_cycle : Lists
long_cycle = record { cycle = 6000; reds = 3000 ∷ []; distances = 0 ∷ []; outbound = []; inbound = [] }

-- volumes (02, 2026-03): on street A nine vehicles an hour, 2 s apart, are a half, on the school street one, 3 s apart. Platoons of 89 and 34, row 11's own, two that come to the same length, the school street's
-- own, and one too long; and the limits in their order
unfoldable pub volume_rows : List TableRow
volume_rows =
    row street_A (Volumes 800 300 20) (plan 1 (pos 60) 89 31 0 11 131) (171 ∷ 10 ∷ 7 ∷ [])
    ∷ row street_A (Volumes 270 90 20) (plan 1 (pos 60) 90 30 0 10 130) (170 ∷ 10 ∷ 7 ∷ [])
    ∷ row street_A (Volumes 265 270 20) (plan 1 (pos 60) 60 60 0 40 160) (0 ∷ 10 ∷ 7 ∷ [])
    ∷ row school_street (Volumes 50 0 30) (plan 1 (pos 100) 400 0 0 100 500) (900 ∷ 0 ∷ 7 ∷ [])
    ∷ row long_cycle (Volumes 3000 2999 100) (plan 1 (pos 6000) 6000 6000 0 3000 9000) (0 ∷ 7 ∷ 7 ∷ [])
    ∷ row long_cycle (Volumes 3001 0 100) (refusal Platoon 1) lent
    ∷ row long_cycle (Volumes 3001 10001 0) (refusal Volume 2) lent
    ∷ row street_A (Volumes 10001 10001 0) (refusal Volume 1) lent
    ∷ row street_A (Volumes 0 0 0) (refusal Volume 3) lent
    ∷ row street_A (Volumes 0 0 101) (refusal Volume 3) lent
    ∷ []

-- a footpath crossing that rests at night, half-way between two signals
unfoldable pub crossing : Lists
crossing =
    record {
      cycle = 900;
      reds = 240 ∷ 0 ∷ 220 ∷ [];
      distances = 0 ∷ 225000 ∷ 450000 ∷ [];
      outbound = 12500 ∷ 12500 ∷ [];
      inbound = 10000 ∷ 10000 ∷ [];
    }

-- one red of a tick and a signal that rests, and two signals that both rest
unfoldable pub one_red : Lists
one_red = two_signals 10 1 0 0 300 1000 1500

unfoldable pub no_red : Lists
no_red = two_signals 600 0 0 0 150000 12500 10000

-- signals that rest in green (02, 2026-05): two reds, with width moved both ways; one; and none, where the cycle is the only width that may be asked for
unfoldable pub resting_rows : List TableRow
resting_rows =
    row crossing Equal (plan 3 (pos 1250) 1250 1250 0 220 1580) (990 ∷ 45 ∷ 0 ∷ [])
    ∷ row crossing (Outbound 1320) (plan 3 (pos 1250) 1320 1180 0 150 1510) (990 ∷ 45 ∷ 1730 ∷ [])
    ∷ row crossing (Inbound 1320) (plan 3 (pos 1250) 1180 1320 0 220 1580) (920 ∷ 45 ∷ 0 ∷ [])
    ∷ row one_red Equal (plan 1 (pos 18) 18 18 0 1 19) (0 ∷ 1 ∷ 7 ∷ [])
    ∷ row no_red Equal (plan 1 (pos 1200) 1200 1200 0 0 0) (0 ∷ 1170 ∷ 7 ∷ [])
    ∷ row no_red (Outbound 1200) (plan 1 (pos 1200) 1200 1200 0 0 0) (0 ∷ 1170 ∷ 7 ∷ [])
    ∷ row no_red (Outbound 1199) (refusal Width 0) lent
    ∷ row no_red (Platoons 30 10) (plan 1 (pos 1200) 1200 1200 0 0 0) (0 ∷ 1170 ∷ 7 ∷ [])
    ∷ []

unfoldable pub rows : List TableRow
rows = equal_rows ++ (rounding_rows ++ (width_rows ++ (platoon_rows ++ (volume_rows ++ resting_rows))))
