-- The contract settles the reply and the final list: two of each that it allows at the same entry are equal. And the reply is the plan's own where 13 passes, since then the checks are. Assumes nothing.
use Prim.Native.Nat.{ℕ}
use mathlib.Core.Path.{ap}
use mathlib.Core.List.{List}
use Rattle.street.specs.Lists.{Lists}
use Rattle.street.specs.Streets.{timed, m}
use Rattle.street.proofs.Unique.{Same, same}
use Rattle.widths.specs.Moved.{shift_of}
use Rattle.widths.specs.declared.Request.{Request}
use Rattle.street.specs.Verdicts.{answered}
use Rattle.plans.specs.Requests.{moved_plan}
use Rattle.plans.specs.Answers.{Answer}
use Rattle.cabinets.specs.Calls.{InSeconds}
use Rattle.cabinets.specs.Kept.{PlansOwn}
use Rattle.cabinets.proofs.CallLaws.{as_plan}

pub seconds_unique : (asked : Request) (l : Lists) (entry exit exit' : List ℕ) (r r' : Answer) → InSeconds asked l entry exit r → InSeconds asked l entry exit' r' → Same r r' exit exit'
seconds_unique asked l entry exit exit' r r' one other = same one.reply other.reply one.after other.after

pub plans_own : PlansOwn
plans_own asked l room whole = ap (λ v. answered v (moved_plan (shift_of asked (timed l)) (timed l) (m l))) (as_plan asked l room whole)
