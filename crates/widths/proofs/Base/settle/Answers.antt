-- `widths::Base::settle` meets its contract: each request's shift is that of its arm; platoons that passed are short enough, and so are those of volumes that passed.
use Rattle.std.specs.Prelude.{Ok}
use Prim.Native.Nat.{ℕ, ◌≤◌}
use mathlib.Core.Path.{◌≡◌, sym, ap, ◌∙◌}
use native.Mathlib.Omega.{arith}
use Rattle.street.specs.Steps.{Checked, timed_street}
use Rattle.street.specs.Limits.{max_platoon}
use Rattle.traffic.specs.Volumes.{platoon_of}
use Rattle.traffic.proofs.VolumeLaws.{Judged}
use Rattle.widths.specs.declared.Request.{Request}
use Rattle.widths.specs.declared.Request.TheVariants.{Volumes}
use Rattle.widths.specs.Checks.{request_check}
use Rattle.widths.proofs.WidthLaws.{platoons_short, traffic_passed}
use Rattle.widths.proofs.Base.settle.Goals as goal

-- volumes that passed are light enough
light_volumes : (s : Checked) (request : Request) (outbound inbound headway : ℕ) →
    request ≡ Volumes outbound inbound headway → request_check request (timed_street s) ≡ (Ok tt) →
    Judged outbound inbound headway × (platoon_of s.cycle headway outbound ≤ max_platoon) × (platoon_of s.cycle headway inbound ≤ max_platoon)
light_volumes s request outbound inbound headway is passed =
    traffic_passed s.cycle outbound inbound headway (sym (ap (λ x. request_check x (timed_street s)) is) ∙ passed)

pub favoured-requires : goal.favoured-requires
favoured-requires c =
    let told = c.in-Platoons in
    let short = platoons_short told.outbound told.inbound (sym (ap (λ x. request_check x (timed_street c.args.self.now.street.now)) told.is) ∙ c.requires) in
    (short.0, short.1)

pub platoon-requires : goal.platoon-requires
platoon-requires c =
    let light = light_volumes c.args.self.now.street.now c.args.request c.in-Volumes.outbound c.in-Volumes.inbound c.in-Volumes.headway c.in-Volumes.is c.requires in
    (c.s.invariant.longest, light.0.headway, light.0.outbound)

pub platoon-requires-in-Volumes : goal.platoon-requires-in-Volumes
platoon-requires-in-Volumes c =
    let light = light_volumes c.args.self.now.street.now c.args.request c.in-Volumes.outbound c.in-Volumes.inbound c.in-Volumes.headway c.in-Volumes.is c.requires in
    (c.s.invariant.longest, light.0.headway, light.0.inbound)

pub favoured-requires-in-Volumes : goal.favoured-requires-in-Volumes
favoured-requires-in-Volumes c =
    let light = light_volumes c.args.self.now.street.now c.args.request c.in-Volumes.outbound c.in-Volumes.inbound c.in-Volumes.headway c.in-Volumes.is c.requires in
    let cycle = ap (λ (x : Checked). x.cycle) c.s.view_is in
    let out = c.platoon.ensures ∙ ap (λ (k : ℕ). platoon_of k c.in-Volumes.headway c.in-Volumes.outbound) cycle in
    let back = c.platoon-in-Volumes.ensures ∙ ap (λ (k : ℕ). platoon_of k c.in-Volumes.headway c.in-Volumes.inbound) cycle in
    (omega (arith, out, light.1), omega (arith, back, light.2))
