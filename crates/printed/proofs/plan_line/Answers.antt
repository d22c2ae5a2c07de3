-- `plan_line` meets its contract: five numbers, each with its end byte, are the line's items with a space between each two and the line
-- end after the last. B is a field, which the code reads off its bits; it fits its type, so that is B again.
use Prim.Native.Nat.{ℕ, ◌+◌, ◌≤◌}
use native.Mathlib.Omega.{arith}
use mathlib.Core.Path.{◌≡◌, ap}
use mathlib.Core.List.{List, [], ◌∷◌, ◌++◌}
use lib.IntN.{ℤ}
use lib.ListN.{length}
use mir.Syntax.{w32}
use mir.Val.{SFits, to_z, of_z}
use mir.ValLaws.{to_z-of_z}
use borrow.Author.Rules.{rules}
use Rattle.decimal.specs.Decimal.{decimal, signed_decimal}
use Rattle.decimal.proofs.Writing.{writes_twice, writes_as}
use Rattle.plans.specs.declared.Plan.{Plan}
use Rattle.printed.specs.Text.{plan_line}
use Rattle.printed.proofs.Lines.{five_items, five_sizes}
use Rattle.printed.proofs.plan_line.Goals as goal

-- an item and the space behind it, and the items that make the line
abbrev item : ℕ → List ℕ
item x = decimal x ++ 32 ∷ []

abbrev b_item : ℤ → List ℕ
b_item b = signed_decimal b ++ 32 ∷ []

abbrev last : Plan → List ℕ
last p = decimal p.rounded ++ 10 ∷ []

items : (p : Plan) → item p.reference ++ b_item p.b ++ item p.outbound ++ item p.inbound ++ last p ≡ plan_line p
items p = five_items (decimal p.reference) (signed_decimal p.b) (decimal p.outbound) (decimal p.inbound) (decimal p.rounded)

-- how long they are, so that the room for the line is room for each
abbrev size : Plan → ℕ
size p = length (item p.reference) + length (b_item p.b) + length (item p.outbound) + length (item p.inbound) + length (last p)

room : (p : Plan) (at long : ℕ) → at + length (plan_line p) ≤ long → at + size p ≤ long
room p at long fits =
    let sizes = five_sizes (item p.reference) (b_item p.b) (item p.outbound) (item p.inbound) (last p) in
    omega (arith, ap length (items p))

-- B, read off its bits, is B again
b_again : (b : ℤ) → SFits w32 b → b_item (to_z w32 (of_z w32 b)) ≡ b_item b
b_again b fits = ap b_item (to_z-of_z w32 b fits)

pub write_ended-inbound-requires : goal.write_ended-inbound-requires
write_ended-inbound-requires c =
    omega (arith, room c.args.plan c.args.at (length c.args.bytes.now) c.requires, ap length (b_again c.args.plan.b (search rules)), c.write_ended-c, c.write_signed-b, c.write_ended-outbound)

pub write_ended-requires : goal.write_ended-requires
write_ended-requires c =
    omega (arith, room c.args.plan c.args.at (length c.args.bytes.now) c.requires, ap length (b_again c.args.plan.b (search rules)), c.write_ended-c, c.write_signed-b, c.write_ended-outbound, c.write_ended-inbound)

pub returns : goal.returns
returns c =
    let within : c.args.at ≤ length c.args.bytes.now = omega (arith, room c.args.plan c.args.at (length c.args.bytes.now) c.requires) in
    let outbound = writes_twice within (writes_twice within c.write_ended-c.ensures (writes_as (b_again c.args.plan.b (search rules)) c.write_signed-b.ensures)) c.write_ended-outbound.ensures in
    writes_as (items c.args.plan) (writes_twice within (writes_twice within outbound c.write_ended-inbound.ensures) c.write_ended.ensures)
