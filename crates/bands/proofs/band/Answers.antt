-- `bands::band` meets its contract: a street seen from the departure has the band of its way.
use Rattle.std.proofs.Common.{◌≤◌, ◌*◌, ap, sym, subst, ◌∙◌, length}
use native.Mathlib.Omega.{arith}
use Rattle.street.specs.Steps.{Checked, timed_street}
use Rattle.stretches.specs.Stretches.{band_of}
use Rattle.bands.specs.Steps.{Ended, way_of}
use Rattle.bands.proofs.SearchLaws.{front_band}
use Rattle.bands.proofs.MeasureLaws.{band-way}
use Rattle.bands.proofs.band.Goals as goal

pub returns : goal.returns
returns c =
    let s : Checked = record { road = c.s.inside.road; cycle = c.s.inside.cycle; reds = c.s.inside.reds } in
    let ends = c.ends-ends.result in
    let offsets = c.args.offsets.now in
    let direction = c.args.direction in
    let room : s.road.signals ≤ length s.reds = omega (arith, c.s.invariant.few, c.s.told) in
    let ended = subst (λ (x : Checked). Ended direction (timed_street x) offsets ends) (sym c.s.view_is) c.ends-ends.ensures in
    band-way (timed_street s) c.s.invariant direction offsets ends ended c.widest.result
    (c.widest.ensures ∙ front_band (2 * s.cycle) s.road.signals s.reds ends room)
    ∙ ap (λ (x : Checked). band_of (way_of direction (timed_street x) offsets)) c.s.view_is
