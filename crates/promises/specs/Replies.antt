-- What is promised of a call's reply: of the numbers in every reply with code 0 that the call's contract allows, and of the offsets that the call leaves in the lent list. One notion says what a
-- plan keeps, and it is promised at rounded times with nothing lost and at exact times with m halves lost (demand 3); the equal plan is the published method's own, platoons that differ leave a side 0
-- only beside g, and no volume beyond the one that a reply names fits its band (demand 2).
use Rattle.std.specs.Prelude.{ℕ, ◌+◌, ◌-◌, ◌*◌, ◌≤◌, ◌<◌, min, ◌≡◌, true, List, pos, ◌-ℤ◌, length, get_or, Result, Ok}
use Rattle.circle.specs.Man.{man}
use Rattle.circle.specs.Method.{B, reference, offset, equal_width, red_end, red_start}
use Rattle.circle.specs.Bands.{Way, clear, width}
use Rattle.circle.specs.Moved.{g}
use Rattle.street.specs.Limits.{max_volume}
use Rattle.street.specs.Lists.{Lists, signals}
use Rattle.street.specs.Checks.{plan_checks}
use Rattle.street.specs.declared.Refusal.{Refusal}
use Rattle.street.specs.Streets.{timed, m}
use Rattle.traffic.specs.Volumes.{platoon_of}
use Rattle.widths.specs.Moved.{platoon_shift, shift_of}
use Rattle.widths.specs.declared.Request.{Request}
use Rattle.widths.specs.declared.Request.TheVariants.{Equal}
use Rattle.widths.specs.declared.Shift.{Shift}
use Rattle.widths.specs.declared.Shift.TheVariants.{Unmoved, Outbound, Inbound}
use Rattle.plans.specs.Answers.{plan_numbers}
use Rattle.street.specs.Verdicts.{verdict_of}
use Rattle.plans.specs.Requests.{Requested}
use Rattle.plans.specs.Volumes.{carried_plan, carried_of, Carries}
use Rattle.plans.specs.Answers.{Answer}
use Rattle.plans.specs.declared.Plan.{Plan}
use Rattle.plans.specs.declared.Carried.{Carried}
use Rattle.promises.specs.Exact.{Fine, Ways, rounded_ways, exact_ways}

-- how long after the start of a named band the departure x comes by at c, round the cycle: the band starts there so many halves before a named instant (01, 'Moving width': inside is by
-- the instant at c)
abbrev pub into_band : ℕ → Way → ℕ → ℕ → ℕ → ℕ → ℕ
into_band N w c instant before x = man w.around (pos (x + N * before + w.lag c) -ℤ pos (N * instant))

-- every departure inside a named band of v halves, at least r halves after its start and more than r before its end, meets no red; with r 0 that is the whole band, and one of width 0
-- is empty
abbrev pub InsideClear : ℕ → Way → ℕ → ℕ → ℕ → ℕ → ℕ → Type 0
InsideClear N w c instant before v r =
    (x : ℕ) → N * r ≤ into_band N w c instant before x → into_band N w c instant before x + N * r < N * v → clear w x ≡ true

-- no offsets, at whatever instants of the unit, do better than a plan of these widths, by what was moved in it: where nothing was, none makes the narrower band wider by more than r halves;
-- else, where r is 0, none with a band as wide as the favoured one gives more the other way
abbrev pub NoneBetter : Shift → Ways → ℕ → ℕ → ℕ → Type 0
NoneBetter Unmoved w v v' r = (f : ℕ → ℕ) → min (width (w.outbound f)) (width (w.inbound f)) ≤ w.unit * (v + r)
NoneBetter (Outbound _) w v v' r = r ≡ 0 → (f : ℕ → ℕ) → w.unit * v ≤ width (w.outbound f) → width (w.inbound f) ≤ w.unit * v'
NoneBetter (Inbound _) w v v' r = r ≡ 0 → (f : ℕ → ℕ) → w.unit * v' ≤ width (w.inbound f) → width (w.outbound f) ≤ w.unit * v

-- what a plan with offsets f, in halves, keeps where at most r halves are lost
pub record Kept (shift : Shift) (w : Ways) (f : ℕ → ℕ) (p : Plan) (r : ℕ) : Type 0 where
  -- the named outbound band starts at c at the instant `starts`, the inbound one ends there at `ends`
  pub outbound_clear : InsideClear w.unit (w.outbound (λ j. w.unit * f j)) (p.reference - 1) p.starts 0 p.outbound r
  pub inbound_clear : InsideClear w.unit (w.inbound (λ j. w.unit * f j)) (p.reference - 1) p.ends p.inbound p.inbound r
  -- neither band falls short of its reported width by more than r halves
  pub outbound_short : w.unit * p.outbound ≤ width (w.outbound (λ j. w.unit * f j)) + w.unit * r
  pub inbound_short : w.unit * p.inbound ≤ width (w.inbound (λ j. w.unit * f j)) + w.unit * r
  -- with nothing lost they are the bands' own
  pub widths : r ≡ 0 → (width (w.outbound (λ j. w.unit * f j)) ≡ w.unit * p.outbound) × (width (w.inbound (λ j. w.unit * f j)) ≡ w.unit * p.inbound)
  pub none_better : NoneBetter shift w p.outbound p.inbound r

-- a claim about the plan and the lent list of every reply with code 0, whatever was asked for
abbrev pub OfReplies : (Request → Lists → List ℕ → Plan → Type 0) → Type 0
OfReplies claim =
    (request : Request) (l : Lists) (entry exit : List ℕ) (r : Answer) → Requested request l entry exit r → (plan_numbers r).code ≡ 0 → claim request l exit (plan_numbers r).plan

-- 1. At rounded times nothing is lost (01, 'The equal plan' and 'Moving width')
abbrev pub KeptRounded : Type 0
KeptRounded =
    OfReplies λ request l exit p. (N : ℕ) → 0 < N → Kept (shift_of request (timed l)) (rounded_ways l N) (λ j. get_or exit j 0) p 0

-- 2. At exact times, in any unit that is fine for the street, at most m halves, m as the reply has it (demand 3)
abbrev pub KeptExact : Type 0
KeptExact =
    OfReplies λ request l exit p. (N : ℕ) → Fine l N → Kept (shift_of request (timed l)) (exact_ways l N) (λ j. get_or exit j 0) p p.rounded

-- there is such a unit for every street that the checks pass
abbrev pub FineExists : Type 0
FineExists = (l : Lists) (room : ℕ) → plan_checks l room ≡ (Ok tt) → (N : ℕ) × Fine l N

-- 3. The equal plan is the published method's own (01, 'The equal plan'): the checks of every plan alone judge a call for it, and with code 0 the reply's numbers and the offset of each signal are
-- the method's formulas at the reference c, nothing lowered
abbrev pub EqualIsMethod : Type 0
EqualIsMethod =
    (l : Lists) (entry exit : List ℕ) (r : Answer) → Requested Equal l entry exit r →
    let s = timed l in
    let c = reference s in
    let p = (plan_numbers r).plan in
    (verdict_of r ≡ plan_checks l (length entry))
    × ((plan_numbers r).code ≡ 0 →
    (p.reference ≡ c + 1)
    × (p.b ≡ B s)
    × (p.outbound ≡ equal_width s)
    × (p.inbound ≡ equal_width s)
    × (p.rounded ≡ m l)
    × (p.starts ≡ red_end s c (offset s c c))
    × (p.ends ≡ red_start s c (offset s c c))
    × ((j : ℕ) → j < signals l → get_or exit j 0 ≡ offset s c j))

-- 4. Where the platoon rule decides, for platoons or for volumes, platoons that differ leave the lesser side 0 only where the larger side has g (02, 2026-02 and 2026-03)
abbrev pub OneSided : Type 0
OneSided =
    OfReplies λ request l exit p. (P Q : ℕ) → shift_of request (timed l) ≡ platoon_shift (timed l) P Q →
    (Q < P → p.inbound ≡ 0 → pos p.outbound ≡ g (timed l))
    × (P < Q → p.outbound ≡ 0 → pos p.inbound ≡ g (timed l))

-- of all volumes from 0 to 10,000 those up to this one have a platoon that fits the width w, and no others
abbrev pub FitsUpTo : ℕ → ℕ → ℕ → ℕ → Type 0
FitsUpTo C h w most =
    (volume : ℕ) → volume ≤ max_volume → (volume ≤ most → platoon_of C h volume ≤ w) × (platoon_of C h volume ≤ w → volume ≤ most)

-- 5. The volumes beside a plan are the largest that its bands take, by the widths that the same reply has (02, 2026-03)
abbrev pub LargestVolumes : Type 0
LargestVolumes =
    (out back h : ℕ) (l : Lists) (entry exit : List ℕ) (r : Result Carried Refusal) → Carries out back h l entry exit r → (plan_numbers (carried_plan r)).code ≡ 0 →
    FitsUpTo l.cycle h (plan_numbers (carried_plan r)).plan.outbound (carried_of r).outbound
    × FitsUpTo l.cycle h (plan_numbers (carried_plan r)).plan.inbound (carried_of r).inbound
