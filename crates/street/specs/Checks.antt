-- Each check of a street, the refusal of a list of checks, which is its first fault, and what a call leaves in a list that was lent to it (01, 'Codes, in order of checking').
use Rattle.std.specs.Prelude.{ℕ, ◌+◌, ◌-◌, Bool, cond, not, List, [], ◌∷◌, ◌++◌, length, drop, get_or, leb, ltb, eqb, Ok, Err}
use Rattle.circle.specs.Over.{Found, nowhere, at, ◌and◌, ◌or◌, first_below}
use Rattle.road.specs.Limits.{min_signals, max_signals, max_distance, min_speed, max_speed}
use Rattle.street.specs.Limits.{min_cycle, max_cycle}
use Rattle.street.specs.Lists.{Lists, signals}
use Rattle.street.specs.declared.Code.{Code}
use Rattle.street.specs.declared.Code.TheVariants.{Count, Room, Cycle, Red, Distance, Speed}
use Rattle.street.specs.Verdicts.{Verdict}

-- a refusal with its code and place
abbrev pub refuse : Code → ℕ → Verdict
refuse code place = Err (record { code = code; place = place })

-- a check of one test: it passes, or refuses at its place
abbrev pub unless_at : ℕ → Bool → Code → Verdict
unless_at place ok code = cond ok (Ok tt) (refuse code place)

-- one that has no place of its own refuses at place 0
abbrev pub unless : Bool → Code → Verdict
unless = unless_at 0

-- a check of a list: it refuses at the first faulty entry, counted from 1
abbrev pub fault_at : Code → Found → Verdict
fault_at code nowhere = (Ok tt)
fault_at code (at i) = refuse code (i + 1)

-- a check's refusal, or else what the next comes to
abbrev pub or_next : Verdict → Verdict → Verdict
or_next (Ok tt) next = next
or_next (Err f) next = Err f

-- a call's refusal is the first fault in its list of checks
abbrev pub first_fault : List Verdict → Verdict
first_fault [] = (Ok tt)
first_fault (v ∷ vs) = or_next v (first_fault vs)

-- whether a number lies from one bound to another, both included
abbrev pub within : ℕ → ℕ → ℕ → Bool
within low high x = leb low x and leb x high

-- 2 COUNT: from the lists' lengths, 1 to 32 signals, a distance for each, and two speeds for each link between neighbours
unfoldable pub count_check : ℕ → ℕ → ℕ → ℕ → Verdict
count_check n distances outbound inbound =
    unless (within min_signals max_signals n and eqb distances n and eqb outbound (n - 1) and eqb inbound (n - 1)) Count

-- 3 ROOM: a lent list has as many entries as the call writes: an offset for each signal, or a sheet's bytes (02, 2026-01)
unfoldable pub room_check : ℕ → ℕ → Verdict
room_check needed room = unless (leb needed room) Room

-- 4 CYCLE
unfoldable pub cycle_check : ℕ → Verdict
cycle_check cycle = unless (within min_cycle max_cycle cycle) Cycle

-- whether the red at an index is above one less than the cycle; a red of 0 is none, and the signal rests in green (02, 2026-05)
abbrev pub bad_red : ℕ → List ℕ → ℕ → Bool
bad_red cycle reds j = ltb (cycle - 1) (get_or reds j 0)

-- 5 RED
unfoldable pub red_check : ℕ → List ℕ → Verdict
red_check cycle reds = fault_at Red (first_below (length reds) (bad_red cycle reds))

-- whether the distance at an index is not above the one before it; the first has none before it
abbrev pub not_above : List ℕ → ℕ → Bool
not_above distances j = ltb 0 j and leb (get_or distances j 0) (get_or distances (j - 1) 0)

-- whether the distance at an index is too large or not above the one before
abbrev pub bad_distance : List ℕ → ℕ → Bool
bad_distance distances j = ltb max_distance (get_or distances j 0) or not_above distances j

-- 6 DISTANCE
unfoldable pub distance_check : List ℕ → Verdict
distance_check distances = fault_at Distance (first_below (length distances) (bad_distance distances))

-- whether either speed of a link is out of range
abbrev pub bad_speed : List ℕ → List ℕ → ℕ → Bool
bad_speed outbound inbound k =
    not (within min_speed max_speed (get_or outbound k 0)) or not (within min_speed max_speed (get_or inbound k 0))

-- 7 SPEED
unfoldable pub speed_check : List ℕ → List ℕ → Verdict
speed_check outbound inbound = fault_at Speed (first_below (length outbound) (bad_speed outbound inbound))

-- the checks that every call makes first, by the lists' lengths: is there a street at all?
abbrev pub counts : Lists → Verdict
counts l = count_check (signals l) (length l.distances) (length l.outbound) (length l.inbound)

-- a call's order is a list of checks. A call that lends a list of offsets opens with these
abbrev pub opening_checks : Lists → ℕ → List Verdict
opening_checks l room = counts l ∷ room_check (signals l) room ∷ cycle_check l.cycle ∷ []

-- and every call judges the numbers so: all reds before any distance
abbrev pub number_checks : Lists → List Verdict
number_checks l = red_check l.cycle l.reds ∷ distance_check l.distances ∷ speed_check l.outbound l.inbound ∷ []

-- the checks of a plan over a lent list of some room, in their order
unfoldable pub plan_checks : Lists → ℕ → Verdict
plan_checks l room = first_fault (opening_checks l room ++ number_checks l)

-- the checks of a street by itself, where nothing is lent or where the lent list is judged last (02, 2026-01)
abbrev pub street_checks : Lists → List Verdict
street_checks l = counts l ∷ cycle_check l.cycle ∷ number_checks l

-- a list after a call that may write its first entries: as before where the call refused, else those entries and the rest as before
abbrev pub written : Verdict → List ℕ → List ℕ → List ℕ
written (Ok tt) entries before = entries ++ drop (length entries) before
written (Err f) entries before = before
