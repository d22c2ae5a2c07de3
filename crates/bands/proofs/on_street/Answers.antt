-- `bands::on_street` meets its contract: the offsets' check tells that each lies on the cycle.
use Rattle.std.proofs.Common.{ap, sym, ◌∙◌}
use Rattle.street.specs.Steps.{Checked, timed_street}
use Rattle.bands.specs.Measure.{offset_check}
use Rattle.bands.proofs.CheckLaws.{placed_on}
use Rattle.bands.proofs.on_street.Goals as goal

pub band-requires : goal.band-requires
band-requires c =
    let cycle = ap (λ (x : Checked). offset_check x.cycle c.args.offsets.now) (sym c.s.view_is) in
    placed_on (timed_street c.args.s.now) c.args.offsets.now c.requires (cycle ∙ sym c.offset.ensures ∙ c.in_ok-offset.was)

pub band-requires-2 : goal.band-requires-2
band-requires-2 c =
    let cycle = ap (λ (x : Checked). offset_check x.cycle c.args.offsets.now) (sym c.s.view_is) in
    placed_on (timed_street c.args.s.now) c.args.offsets.now c.requires (cycle ∙ sym c.offset.ensures ∙ c.in_ok-offset.was)
