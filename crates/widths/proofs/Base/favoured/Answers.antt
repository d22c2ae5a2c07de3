-- `widths::Base::favoured` meets its contract: the comparison picks the longer platoon's direction, which gets what the rule gives its length.
use Rattle.std.proofs.Common.{◌≡◌, ◌<◌}
use Rattle.std.proofs.lemmas.Cmp.{ranked}
use native.Mathlib.Omega.{arith}
use Rattle.street.specs.Steps.{timed_street}
use Rattle.widths.proofs.WidthLaws.{favours_neither, favours_outbound, favours_inbound}
use Rattle.widths.proofs.Base.favoured.Goals as goal

pub returns-in-Equal : goal.returns-in-Equal
returns-in-Equal c =
    let same : c.args.outbound ≡ c.args.inbound = ranked _ _ _ c.in-Equal.ensures in
    favours_neither (timed_street c.args.self.now.street.now) c.args.outbound c.args.inbound same

pub returns-in-Greater : goal.returns-in-Greater
returns-in-Greater c =
    let longer : c.args.inbound < c.args.outbound = ranked _ _ _ c.in-Greater.ensures in
    favours_outbound (timed_street c.args.self.now.street.now) c.args.outbound c.args.inbound _ (λ e. omega arith) longer c.share.ensures

pub returns-in-Less : goal.returns-in-Less
returns-in-Less c =
    let longer : c.args.outbound < c.args.inbound = ranked _ _ _ c.in-Less.ensures in
    favours_inbound (timed_street c.args.self.now.street.now) c.args.outbound c.args.inbound _ (λ e. omega arith) (omega arith) c.share-in-Less.ensures
