-- What the cabinets keep of a plan (02, 2026-06): of the numbers in every reply with code 0 that the call's contract allows, and of the seconds that the call leaves in the lent list. A start of green moves
-- by 9 halves down to 10 up, so a named band can lose 10 halves at its start and 9 at its end: 19, which is within the 20 that the request asks; and at exact times m halves more.
use Rattle.std.specs.Prelude.{ℕ, ◌+◌, ◌-◌, ◌*◌, ◌≤◌, ◌<◌, ◌≡◌, true, List, pos, ◌-ℤ◌, get_or, Ok}
use Rattle.circle.specs.Man.{man}
use Rattle.circle.specs.Over.{list_below}
use Rattle.circle.specs.Bands.{Way, clear, stretch, width}
use Rattle.street.specs.Lists.{Lists, signals}
use Rattle.widths.specs.declared.Request.{Request}
use Rattle.plans.specs.Answers.{plan_numbers}
use Rattle.plans.specs.Requests.{request_answer}
use Rattle.plans.specs.Answers.{Answer}
use Rattle.plans.specs.declared.Plan.{Plan}
use Rattle.bands.specs.Measure.{measurement_of, band_numbers}
use Rattle.promises.specs.Exact.{Fine, Ways, rounded_ways, exact_ways}
use Rattle.promises.specs.Replies.{into_band}
use Rattle.seconds.specs.Seconds.{second_halves, seconds_check}
use Rattle.cabinets.specs.Calls.{seconds_answer, InSeconds}

-- the offset that a cabinet then keeps, in halves: the start of green less the red
abbrev pub kept_offset : Lists → List ℕ → ℕ → ℕ
kept_offset l seconds j = man (2 * l.cycle) (pos (second_halves * get_or seconds j 0) -ℤ pos (get_or l.reds j 0))

-- every departure inside a named band of v halves, at least `late` halves after its start and more than `early` before its end, meets no red; where both are r that is `InsideClear`
-- of the plans' promises
abbrev pub ClearBetween : ℕ → Way → ℕ → ℕ → ℕ → ℕ → ℕ → ℕ → Type 0
ClearBetween N w c instant before v late early =
    (x : ℕ) → N * late ≤ into_band N w c instant before x → into_band N w c instant before x + N * early < N * v → clear w x ≡ true

-- an unbroken stretch of k halves that meets no red and lies inside a named band of v halves
pub record StretchInside (N : ℕ) (w : Way) (c instant before v k : ℕ) : Type 0 where
  pub from : ℕ
  pub unbroken : stretch w from (N * k) ≡ true
  pub inside : (i : ℕ) → i < N * k → into_band N w c instant before (from + i) < N * v

-- each named band of a plan loses so many halves at most under offsets f, in halves: inside it there is an unbroken stretch of its width less these, and so the direction's own width is no less
pub record LosesAtMost (most : ℕ) (w : Ways) (f : ℕ → ℕ) (p : Plan) : Type 0 where
  pub outbound_stretch : StretchInside w.unit (w.outbound (λ j. w.unit * f j)) (p.reference - 1) p.starts 0 p.outbound (p.outbound - most)
  pub inbound_stretch : StretchInside w.unit (w.inbound (λ j. w.unit * f j)) (p.reference - 1) p.ends p.inbound p.inbound (p.inbound - most)
  pub outbound_short : w.unit * p.outbound ≤ width (w.outbound (λ j. w.unit * f j)) + w.unit * most
  pub inbound_short : w.unit * p.inbound ≤ width (w.inbound (λ j. w.unit * f j)) + w.unit * most

-- what is kept of a plan under offsets f, in halves, where the travel times cost r halves and whole seconds 19 more: every departure inside a named band, which is where the plan has it, but for those near its
-- ends; and of each band all but r and 19 halves
pub record KeptInSeconds (w : Ways) (f : ℕ → ℕ) (p : Plan) (r : ℕ) : Type 0 where
  pub outbound_clear : ClearBetween w.unit (w.outbound (λ j. w.unit * f j)) (p.reference - 1) p.starts 0 p.outbound (r + 10) (r + 9)
  pub inbound_clear : ClearBetween w.unit (w.inbound (λ j. w.unit * f j)) (p.reference - 1) p.ends p.inbound p.inbound (r + 10) (r + 9)
  pub loses : LosesAtMost (r + 19) w f p

-- a claim about the plan and the lent list of every reply with code 0, whatever was asked for
abbrev pub OfSeconds : (Lists → List ℕ → Plan → Type 0) → Type 0
OfSeconds claim =
    (request : Request) (l : Lists) (entry exit : List ℕ) (r : Answer) → InSeconds request l entry exit r → (plan_numbers r).code ≡ 0 → claim l exit (plan_numbers r).plan

-- 1. At rounded times nothing but the seconds costs, in halves and in every finer unit
abbrev pub SecondsRounded : Type 0
SecondsRounded = OfSeconds λ l exit p. (N : ℕ) → 0 < N → KeptInSeconds (rounded_ways l N) (kept_offset l exit) p 0

-- 2. At exact times, in any unit that is fine for the street, m halves more, m as the reply has it
abbrev pub SecondsExact : Type 0
SecondsExact = OfSeconds λ l exit p. (N : ℕ) → Fine l N → KeptInSeconds (exact_ways l N) (kept_offset l exit) p p.rounded

-- 3. The cost that was asked for: at rounded times at most 20 halves, and at exact times at most 20 more than m
abbrev pub AtMostTwenty : Type 0
AtMostTwenty =
    OfSeconds λ l exit p.
    ((N : ℕ) → 0 < N → LosesAtMost 20 (rounded_ways l N) (kept_offset l exit) p)
    × ((N : ℕ) → Fine l N → LosesAtMost (p.rounded + 20) (exact_ways l N) (kept_offset l exit) p)

-- 4. `measure` takes the offsets that the cabinets keep, refuses none of them, and finds neither width more than 19 halves below the plan's
abbrev pub SecondsMeasured : Type 0
SecondsMeasured =
    OfSeconds λ l exit p.
    let found = band_numbers (measurement_of l (list_below (signals l) (kept_offset l exit))) in
    (found.code ≡ 0) × (p.outbound ≤ found.outbound.width + 19) × (p.inbound ≤ found.inbound.width + 19)

-- 5. At a cycle of whole seconds the reply is the plan's own, refusals too
abbrev pub PlansOwn : Type 0
PlansOwn = (request : Request) (l : Lists) (room : ℕ) → seconds_check l.cycle ≡ (Ok tt) → seconds_answer request l room ≡ request_answer request l room
