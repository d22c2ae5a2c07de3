-- What a call with volumes answers (02, 2026-03): the plan of a request like any other, and for each direction the largest volume that its width takes.
use Rattle.std.specs.Prelude.{ℕ, List, Result, Ok, Err, IfOk}
use Rattle.street.specs.Lists.{Lists}
use Rattle.street.specs.declared.Refusal.{Refusal}
use Rattle.traffic.specs.Volumes.{Largest}
use Rattle.widths.specs.declared.Request.TheVariants.{Volumes}
use Rattle.plans.specs.Requests.{Requested}
use Rattle.plans.specs.Answers.{Answer, no_plan}
use Rattle.plans.specs.declared.Carried.{Carried}

-- the plan of an answer with volumes, or its refusal
abbrev pub carried_plan : Result Carried Refusal → Answer
carried_plan (Ok c) = Ok c.plan
carried_plan (Err f) = Err f

-- the plan of an answer with its two volumes, if there is one: 0 beside a refusal
abbrev pub carried_of : Result Carried Refusal → Carried
carried_of (Ok c) = c
carried_of (Err f) = record { plan = no_plan; outbound = 0; inbound = 0 }

-- the two volumes beside a plan: each is the largest whose platoon fits the reported width of its direction, at the cycle C and the headway h
abbrev pub LargestFor : ℕ → ℕ → Carried → Type 0
LargestFor C h c = Largest C h c.plan.outbound c.outbound × Largest C h c.plan.inbound c.inbound

-- the contract of `volumes`: the answer and the lent list are those of the request for volumes, and the volumes beside a plan are the largest
pub record Carries (out back h : ℕ) (l : Lists) (entry exit : List ℕ) (r : Result Carried Refusal) : Type 0 where
  pub plan : Requested (Volumes out back h) l entry exit (carried_plan r)
  pub volumes : IfOk r (LargestFor l.cycle h)
