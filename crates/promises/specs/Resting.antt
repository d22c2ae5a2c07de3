-- Streets where every signal rests in green (02, 2026-05): what each reply has, which widths may be asked for, and what `measure` finds. Every other promise holds of them as it stands.
use Rattle.std.specs.Prelude.{ℕ, ◌*◌, ◌<◌, ◌≡◌, List, pos, get_or, eqb, Ok}
use Rattle.street.specs.Lists.{Lists, signals}
use Rattle.street.specs.Checks.{unless, plan_checks}
use Rattle.street.specs.Streets.{timed}
use Rattle.street.specs.declared.Code.TheVariants.{Width}
use Rattle.widths.specs.Checks.{width_check}
use Rattle.bands.specs.Measure.{measurement_of, band_numbers}
use Rattle.promises.specs.Replies.{OfReplies}

abbrev pub AllRest : Lists → Type 0
AllRest l = (j : ℕ) → j < signals l → get_or l.reds j 0 ≡ 0

-- H, the cycle in halves
abbrev pub whole_cycle : Lists → ℕ
whole_cycle l = 2 * l.cycle

-- 6. Whatever was asked for, the reference is signal 1, B is H and both directions have H
abbrev pub RestingReplies : Type 0
RestingReplies =
    OfReplies λ request l exit p. AllRest l →
    (p.reference ≡ 1) × (p.b ≡ pos (whole_cycle l)) × (p.outbound ≡ whole_cycle l) × (p.inbound ≡ whole_cycle l)

-- 7. A request for a width passes for H, and for no other width
abbrev pub RestingWidths : Type 0
RestingWidths =
    (l : Lists) (room : ℕ) → plan_checks l room ≡ (Ok tt) → AllRest l → (w : ℕ) → width_check (timed l) w ≡ unless (eqb w (whole_cycle l)) Width

-- 8. Under all offsets that it takes `measure` finds the whole cycle from 0, both ways
abbrev pub RestingMeasures : Type 0
RestingMeasures =
    (l : Lists) (offsets : List ℕ) → AllRest l →
    let found = band_numbers (measurement_of l offsets) in
    found.code ≡ 0 → (found.outbound ≡ record { width = whole_cycle l; start = 0 }) × (found.inbound ≡ record { width = whole_cycle l; start = 0 })
