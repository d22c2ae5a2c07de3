-- `exports::corbatan_measure` meets its contract: the reply is that of `bands::measure` in C's struct.
use Rattle.std.proofs.Common.{ap, ◌∙◌}
use Rattle.bands.specs.Measure.{measurement_of}
use Rattle.flat.specs.Flat.{flat_measure}
use Rattle.exports.proofs.corbatan_measure.Goals as goal

pub returns : goal.returns
returns c =
    c.from.ensures ∙ ap flat_measure (c.measure.ensures ∙ ap (λ l. measurement_of l c.args.offsets.now) c.new-measured.ensures)
