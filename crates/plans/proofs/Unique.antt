-- The one contract settles the reply and the final list, whatever was asked for: two of each that it allows at the same entry are equal, since both equal what it names. So does that of volumes, since of a
-- width there is just one largest volume. And every offset that a plan writes is an instant of the cycle. Assumes nothing.
use Rattle.std.specs.Prelude.{Result, Ok, Err, IfOk}
use Prim.Native.Nat.{ℕ, ◌<◌}
use mathlib.Core.Path.{◌≡◌, ap, subst}
use mathlib.Core.List.{List}
use native.Mathlib.Omega.{arith}
use lib.IntN.{pos, ◌-ℤ◌}
use Rattle.circle.specs.Method.{halves, reference, offset}
use Rattle.circle.specs.Moved.{lowered}
use Rattle.circle.proofs.Numbers.{man_lt}
use Rattle.street.specs.Checks.{plan_checks}
use Rattle.street.specs.Streets.{timed}
use Rattle.street.proofs.Passed.{in_limits}
use Rattle.street.proofs.Unique.{Same, same}
use Rattle.street.specs.Lists.{Lists}
use Rattle.widths.specs.declared.Shift.{Shift}
use Rattle.widths.specs.declared.Request.{Request}
use Rattle.widths.specs.declared.Request.TheVariants.{Volumes}
use Rattle.traffic.proofs.VolumeLaws.{largest_only}
use Rattle.offsets.specs.Moved.{lowering, moved_offset}
use Rattle.plans.specs.Requests.{Requested}
use Rattle.plans.specs.Volumes.{carried_plan, LargestFor, Carries}
use Rattle.plans.specs.declared.Plan.{Plan}
use Rattle.street.specs.declared.Refusal.{Refusal}
use Rattle.traffic.specs.Volumes.{Largest}
use Rattle.plans.specs.Answers.{Answer}
use Rattle.plans.specs.declared.Carried.{Carried}

pub requested_unique : (asked : Request) (l : Lists) (entry exit exit' : List ℕ) (r r' : Answer) → Requested asked l entry exit r → Requested asked l entry exit' r' → Same r r' exit exit'
requested_unique asked l entry exit exit' r r' one other = same one.reply other.reply one.after other.after

-- a call with volumes: of the answers that it allows there is one, and of the volumes that are the largest beside a plan one for each direction
carried_same : (C h : ℕ) (r r' : Result Carried Refusal) → carried_plan r ≡ carried_plan r' → IfOk r (LargestFor C h) → IfOk r' (LargestFor C h) → r ≡ r'
carried_same C h (Ok c) (Ok d) same one other =
    let plan : c.plan ≡ d.plan = cc in
    let there = largest_only C h d.plan.outbound c.outbound d.outbound (subst (λ (p : Plan). Largest C h p.outbound c.outbound) plan one.0) other.0 in
    let home = largest_only C h d.plan.inbound c.inbound d.inbound (subst (λ (p : Plan). Largest C h p.inbound c.inbound) plan one.1) other.1 in
    ap Ok (λ i. record { plan = plan i; outbound = there i; inbound = home i })
carried_same C h (Ok c) (Err f) same one other = cc
carried_same C h (Err f) (Ok d) same one other = cc
carried_same C h (Err f) (Err g) same one other = cc

pub carries_unique : (out back h : ℕ) (l : Lists) (entry exit exit' : List ℕ) (r r' : Result Carried Refusal) → Carries out back h l entry exit r → Carries out back h l entry exit' r' → Same r r' exit exit'
carries_unique out back h l entry exit exit' r r' one other =
    let plan = requested_unique (Volumes out back h) l entry exit exit' (carried_plan r) (carried_plan r') one.plan other.plan in
    record {
      reply = carried_same l.cycle h r r' plan.reply one.volumes other.volumes;
      after = plan.after;
    }

-- every offset that a plan writes is below H
pub offsets_below : (l : Lists) (room : ℕ) → plan_checks l room ≡ (Ok tt) → (shift : Shift) (j : ℕ) → moved_offset shift (timed l) j < halves (timed l)
unfolding lowered
offsets_below l room passed shift j =
    man_lt (halves (timed l)) (pos (offset (timed l) (reference (timed l)) j) -ℤ pos (lowering shift (timed l) j))
    (omega (arith, (in_limits l room passed).cycle.low))
