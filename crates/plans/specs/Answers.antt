-- The answer of a plan's call, and its numbers, by document 01: a refusal has its code and place and is 0 elsewhere, a plan has code and place 0.
use Rattle.std.specs.Prelude.{ℕ, pos, Result, Ok, Err}
use Rattle.street.specs.declared.Refusal.{Refusal}
use Rattle.street.specs.Codes.{code_of, place_of}
use Rattle.street.specs.Verdicts.{verdict_of}
use Rattle.plans.specs.declared.Plan.{Plan}

-- a plan, or a numbered refusal
abbrev pub Answer : Type 0
Answer = Result Plan Refusal

-- the code and place of a refusal, 0 and 0 for a plan, and a plan's numbers
pub record PlanNumbers : Type 0 where
  pub code : ℕ
  pub place : ℕ
  pub plan : Plan

-- every number of a plan that was refused
abbrev pub no_plan : Plan
no_plan = record { reference = 0; b = pos 0; outbound = 0; inbound = 0; rounded = 0; starts = 0; ends = 0 }

-- the plan of an answer, if there is one
abbrev pub plan_of : Answer → Plan
plan_of (Ok p) = p
plan_of (Err f) = no_plan

-- all numbers of an answer
abbrev pub plan_numbers : Answer → PlanNumbers
plan_numbers a = record { code = code_of (verdict_of a); place = place_of (verdict_of a); plan = plan_of a }
