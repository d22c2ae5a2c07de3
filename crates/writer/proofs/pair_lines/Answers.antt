-- A turn has both numbers of its line, and room for the two items of it.
use Prim.Native.Nat.{ℕ, ◌+◌, ◌≤◌}
use native.Mathlib.Omega.{arith}
use mathlib.Core.Logic.{inl, inr, ⊎_elim}
use mathlib.Core.Path.{◌≡◌}
use mathlib.Core.List.{List, ◌∷◌, ◌++◌}
use lib.ListN.{length}
use Rattle.decimal.proofs.Writing.{Unwritten, room_first, room_left, writes_twice, part_fits, part_written, all_written}
use Rattle.sheet.specs.Form.{pair_lines}
use Rattle.writer.proofs.Lines.{left_item, right_item, first_line, no_line}
use Rattle.writer.proofs.pair_lines.Goals as goal

-- there is room for the line whose turn it is
room :
    {at next : ℕ} {whole before bytes xs ys xs' ys' : List ℕ} {x y : ℕ}
    → at + length whole ≤ length before
    → Unwritten at whole before next (pair_lines xs ys) bytes
    → xs ≡ x ∷ xs'
    → ys ≡ y ∷ ys'
    → next + length (left_item x ++ right_item y) ≤ length bytes
room {xs' = xs'} {ys' = ys'} {x = x} {y = y} fits so_far e f = part_fits fits so_far (left_item x ++ right_item y) (pair_lines xs' ys') (first_line e f)

pub write_ended-second-requires : goal.write_ended-second-requires
write_ended-second-requires c =
    let turn = c.in-Some.ensures.steps in
    room_first c.loop-left.next (length c.loop-left.bytes) (left_item c.in-Some.left.now) (right_item c.in-Some.right.now)
    (room c.requires c.loop-left.invariant turn.0 turn.1)

pub write_ended-next-requires : goal.write_ended-next-requires
write_ended-next-requires c =
    let turn = c.in-Some.ensures.steps in
    room_left (right_item c.in-Some.right.now) c.write_ended-second.ensures (room c.requires c.loop-left.invariant turn.0 turn.1)

pub loop-left-preserved : goal.loop-left-preserved
loop-left-preserved c =
    let turn = c.in-Some.ensures.steps in
    let fits = room c.requires c.loop-left.invariant turn.0 turn.1 in
    part_written c.requires c.loop-left.invariant (left_item c.in-Some.left.now ++ right_item c.in-Some.right.now) (pair_lines _ _) (first_line turn.0 turn.1)
    (writes_twice (omega arith) c.write_ended-second.ensures c.write_ended-next.ensures)

pub returns : goal.returns
returns c =
    all_written
    (no_line c.loop-left.left-iterator.a.rest.now c.loop-left.left-iterator.b.rest.now (⊎_elim (λ e. inl e.1.0) (λ e. inr e.1.0) c.in-None.ensures.steps))
    c.loop-left.invariant
