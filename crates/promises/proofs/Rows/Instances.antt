-- Document 01's rows 2 and 3 and its street A as instances of the promises, and the streets with two reds, with one and with none beside signals that rest (02, 2026-05): `measure` finds the
-- bands under the offsets that the row's call leaves as wide as the row says. The reply and the list are the row's, by computation; that the width is the measured one is the theorem. 01's own
-- formula would cut the bands of these streets short. And rows of volumes as instances of the contract of `volumes`, with the largest volumes. Assumes nothing.
use Rattle.std.specs.Prelude.{Result, Ok, Err}
use Prim.Native.Nat.{ℕ}
use mathlib.Core.Path.{◌≡◌, refl}
use mathlib.Core.List.{List, [], ◌∷◌, map}
use lib.IntN.{pos}
use Rattle.circle.specs.Over.{first_below, sum_below, list_below, all_below, over_below}
use Rattle.circle.specs.Method.{u, pair_width, b, B, reference, phase, offset, equal_width, red_end, red_start}
use Rattle.circle.specs.Moved.{g, chosen, outbound_lowering, lowered, other_width, found_width, platoon_width}
use Rattle.circle.proofs.Formulas.Former.{former_B}
use Rattle.street.specs.Lists.{Lists}
use Rattle.street.specs.Streets.{timed}
use Rattle.street.specs.Checks.{count_check, room_check, cycle_check, red_check, distance_check, speed_check, plan_checks}
use Rattle.traffic.specs.Checks.{volume_check}
use Rattle.traffic.proofs.Examples.{into_89, into_31, into_60, all_into_60}
use Rattle.widths.specs.Moved.{platoon_shift}
use Rattle.widths.specs.Checks.{platoon_check, traffic_check}
use Rattle.widths.specs.declared.Request.TheVariants.{Equal}
use Rattle.plans.specs.Volumes.{Carries}
use Rattle.plans.specs.declared.Carried.{Carried}
use Rattle.street.specs.declared.Refusal.{Refusal}
use Rattle.plans.specs.Answers.{Answer}
use Rattle.bands.specs.Measure.{band_numbers, measurement_of}
use Rattle.promises.specs.Rows.{two_signals, two_alike, street_A, crossing, one_red, no_red, plan, lent}
use Rattle.promises.proofs.Replies.Measures.{measure_agrees}

-- both measured bands under some offsets have a width
abbrev pub BothWide : Lists → List ℕ → ℕ → Type 0
BothWide l offsets v =
    let found = band_numbers (measurement_of l offsets) in
    (found.outbound.width ≡ v) × (found.inbound.width ≡ v)

pub instances : BothWide (two_alike 600 300 30000) (0 ∷ 600 ∷ []) 600 × BothWide (two_alike 600 300 15000) (0 ∷ 0 ∷ []) 300 × BothWide street_A (0 ∷ 10 ∷ []) 60
unfolding two_signals two_alike street_A lent first_below sum_below list_below u pair_width b B reference phase offset equal_width red_end red_start lowered count_check room_check cycle_check red_check distance_check speed_check plan_checks over_below all_below
instances =
    let half = measure_agrees Equal (two_alike 600 300 30000) lent _ _ (record { reply = refl; after = refl }) refl in
    let quarter = measure_agrees Equal (two_alike 600 300 15000) lent _ _ (record { reply = refl; after = refl }) refl in
    let a = measure_agrees Equal street_A lent _ _ (record { reply = refl; after = refl }) refl in
    ((half.1, half.2), (quarter.1, quarter.2), (a.1, a.2))

pub resting : BothWide crossing (990 ∷ 45 ∷ 0 ∷ []) 1250 × BothWide one_red (0 ∷ 1 ∷ []) 18 × BothWide no_red (0 ∷ 1170 ∷ []) 1200
unfolding two_signals crossing one_red no_red lent first_below sum_below list_below u pair_width b B reference phase offset equal_width red_end red_start lowered count_check room_check cycle_check red_check distance_check speed_check plan_checks over_below all_below
resting =
    let two = measure_agrees Equal crossing lent _ _ (record { reply = refl; after = refl }) refl in
    let one = measure_agrees Equal one_red lent _ _ (record { reply = refl; after = refl }) refl in
    let none = measure_agrees Equal no_red lent _ _ (record { reply = refl; after = refl }) refl in
    ((two.1, two.2), (one.1, one.2), (none.1, none.2))

-- B of the same streets by 01's formula, in which a red of no length is a limit, and as it is
pub cut : map (λ l. former_B (timed l)) (crossing ∷ one_red ∷ no_red ∷ []) ≡ pos 1085 ∷ pos 14 ∷ pos 930 ∷ []
unfolding two_signals crossing one_red no_red sum_below u pair_width over_below all_below
cut = refl

pub uncut : map (λ l. B (timed l)) (crossing ∷ one_red ∷ no_red ∷ []) ≡ pos 1250 ∷ pos 18 ∷ pos 1200 ∷ []
unfolding two_signals crossing one_red no_red sum_below u pair_width b B over_below all_below
uncut = refl

-- an answer with volumes beside its plan
abbrev beside : Answer → ℕ → ℕ → Result Carried Refusal
beside (Ok p) out back = Ok (record { plan = p; outbound = out; inbound = back })
beside (Err f) out back = Err f

-- street A with 800 and 300 vehicles an hour, with two volumes whose platoons are equal, and with none: the reply, the list, and the largest volumes beside the reply
abbrev CarriesOnA : ℕ → ℕ → ℕ → Answer → List ℕ → ℕ → ℕ → Type 0
CarriesOnA out back h answer exit most most' = Carries out back h street_A lent exit (beside answer most most')

pub volumes :
    CarriesOnA 800 300 20 (plan 1 (pos 60) 89 31 0 11 131) (171 ∷ 10 ∷ 7 ∷ []) 801 279
    × CarriesOnA 265 270 20 (plan 1 (pos 60) 60 60 0 40 160) (0 ∷ 10 ∷ 7 ∷ []) 540 540
    × CarriesOnA 0 0 1 (plan 1 (pos 60) 60 60 0 40 160) (0 ∷ 10 ∷ 7 ∷ []) 10000 10000
unfolding two_signals street_A lent plan first_below sum_below list_below u pair_width b B reference phase offset equal_width red_end red_start g chosen outbound_lowering lowered other_width found_width platoon_width platoon_shift count_check room_check cycle_check red_check distance_check speed_check plan_checks platoon_check volume_check traffic_check over_below all_below
volumes = (
  record { plan = record { reply = refl; after = refl }; volumes = (into_89, into_31) },
  record { plan = record { reply = refl; after = refl }; volumes = (into_60, into_60) },
  record { plan = record { reply = refl; after = refl }; volumes = (all_into_60, all_into_60) },
)
