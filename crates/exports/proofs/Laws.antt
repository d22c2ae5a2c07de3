-- How the library's contracts carry over to C's structs, for any lists and replies. Assumes nothing.
use Prim.Native.Nat.{ℕ}
use mathlib.Core.Path.{◌≡◌, ap, ◌∙◌}
use mathlib.Core.List.{List}
use Rattle.plans.specs.Answers.{Answer}
use Rattle.flat.specs.declared.CorbatanPlan.{CorbatanPlan}
use Rattle.flat.specs.Flat.{flat_plan}
use Rattle.exports.specs.Calls.{FlatAnswer}

-- what a call of the library ensures of its answer and of the lent list, of the struct that holds the answer
pub answer_flat : {a a' : Answer} {list exit : List ℕ} {r : CorbatanPlan} → a ≡ a' → exit ≡ list → r ≡ flat_plan a → FlatAnswer a' list exit r
answer_flat reply after e = record { reply = e ∙ ap flat_plan reply; after = after }
