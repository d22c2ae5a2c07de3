-- What two calls have to do with each other: `measure` takes the offsets that a plan leaves, refuses none of them, and finds both widths as the plan's reply has them (01, 'Measuring').
use Rattle.std.specs.Prelude.{◌≡◌, take}
use Rattle.street.specs.Lists.{signals}
use Rattle.bands.specs.Measure.{measurement_of, band_numbers}
use Rattle.promises.specs.Replies.{OfReplies}

abbrev pub MeasureAgrees : Type 0
MeasureAgrees =
    OfReplies λ request l exit p.
    let found = band_numbers (measurement_of l (take (signals l) exit)) in
    (found.code ≡ 0) × (found.outbound.width ≡ p.outbound) × (found.inbound.width ≡ p.inbound)
