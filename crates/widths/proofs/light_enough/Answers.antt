-- `widths::light_enough` meets its contract: the volumes' refusal, or else the verdict on the platoons of volumes that were judged.
use Rattle.std.proofs.Common.{rules, ◌≡◌, sym, ◌∙◌}
use Rattle.street.specs.Checks.{or_next}
use Rattle.traffic.specs.Volumes.{platoon_of}
use Rattle.traffic.specs.Checks.{volume_check}
use Rattle.traffic.proofs.VolumeLaws.{Judged, judged}
use Rattle.widths.specs.Checks.{platoon_check}
use Rattle.widths.proofs.WidthLaws.{traffic_is}
use Rattle.widths.proofs.light_enough.Goals as goal

pub returns-in_err-check : goal.returns-in_err-check
returns-in_err-check c =
    let a = c.args in
    let first : c.from_residual.result ≡ or_next (volume_check a.outbound a.inbound a.headway) (platoon_check (platoon_of a.cycle a.headway a.outbound) (platoon_of a.cycle a.headway a.inbound)) = search rules in
    first ∙ traffic_is a.cycle a.outbound a.inbound a.headway

pub platoon-requires : goal.platoon-requires
platoon-requires c =
    let passed : Judged c.args.outbound c.args.inbound c.args.headway = judged _ _ _ (sym c.check.ensures ∙ c.in_ok-check.was) in
    (c.requires, passed.headway, passed.outbound)

pub platoon-requires-2 : goal.platoon-requires-2
platoon-requires-2 c =
    let passed : Judged c.args.outbound c.args.inbound c.args.headway = judged _ _ _ (sym c.check.ensures ∙ c.in_ok-check.was) in
    (c.requires, passed.headway, passed.inbound)

pub returns : goal.returns
returns c =
    let a = c.args in
    let all : c.short_enough.result ≡ or_next (volume_check a.outbound a.inbound a.headway) (platoon_check (platoon_of a.cycle a.headway a.outbound) (platoon_of a.cycle a.headway a.inbound)) = search rules in
    all ∙ traffic_is a.cycle a.outbound a.inbound a.headway
