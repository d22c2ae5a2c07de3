-- `plans::numbers` meets its contract, field by field, from what each part ensures at the reference.
use Rattle.std.proofs.Common.{ℕ, ◌*◌, ◌+◌, ◌≤◌, ◌<◌, ◌≡◌, sym, ap, ap₂, subst, ◌∙◌}
use native.Mathlib.Omega.{arith}
use lib.IntN.{pos, ◌-ℤ◌}
use mir.Syntax.{w32}
use mir.Val.{to_z, of_z}
use Rattle.circle.specs.Method.{Timed, B, reference, red_end, red_start}
use Rattle.circle.proofs.Formulas.{reference_lt}
use Rattle.road.specs.Limits.{max_signals}
use Rattle.street.specs.Limits.{max_cycle}
use Rattle.street.specs.Steps.{Checked, timed_street, Sound}
use Rattle.widths.specs.declared.Shift.{Shift}
use Rattle.offsets.specs.Moved.{moved_offset}
use Rattle.offsets.proofs.OffsetLaws.{moved_lt, red_end_man, red_start_man}
use Rattle.plans.proofs.SignedLaws.{reread}
use Rattle.plans.proofs.numbers.Goals as goal

-- the reference is one of the signals
within : (s : Timed) (c : ℕ) → Sound s → c ≡ reference s → (c < s.signals) × (c < max_signals)
within s c ok is = (omega (arith, is, reference_lt s ok.some), omega (arith, is, reference_lt s ok.some, ok.few))

-- its offset and its red lie on the cycle
record OnCycle (s : Timed) (c f : ℕ) : Type 0 where
  offset : f < 2 * s.cycle
  red : s.red c < s.cycle
  turns : 1 ≤ s.cycle
  longest : s.cycle ≤ max_cycle

on_cycle : (s : Timed) (c f : ℕ) (shift : Shift) → Sound s → c ≡ reference s → f ≡ moved_offset shift s (reference s) → OnCycle s c f
on_cycle s c f shift ok is own =
    let turns : 0 < s.cycle = omega (arith, ok.shortest) in
    record {
      offset = omega (arith, own, moved_lt s shift (reference s) turns);
      red = ok.goes c (within s c ok is).0;
      turns = turns;
      longest = ok.longest;
    }

-- the same of the street as it is held
held : (s t : Checked) (c f : ℕ) (shift : Shift) → s ≡ t → Sound (timed_street t) → c ≡ reference (timed_street t) → f ≡ moved_offset shift (timed_street t) (reference (timed_street t)) → OnCycle (timed_street s) c f
held s t c f shift same ok is own =
    subst (λ (u : Checked). OnCycle (timed_street u) c f) (sym same) (on_cycle (timed_street t) c f shift ok is own)

pub offset_bounds-s-inside-c : goal.offset_bounds-s-inside-c
offset_bounds-s-inside-c c = omega (arith, within _ c.args.c c.args.base.now.base.sound c.requires.0)

pub bounds-s-inside-c : goal.bounds-s-inside-c
bounds-s-inside-c c = omega (arith, within _ c.args.c c.args.base.now.base.sound c.requires.0)

pub overflow_add-result : goal.overflow_add-result
overflow_add-result c = omega (arith, within _ c.args.c c.args.base.now.base.sound c.requires.0)

pub overflow_cast-result : goal.overflow_cast-result
overflow_cast-result c = omega (arith, within _ c.args.c c.args.base.now.base.sound c.requires.0)

pub overflow_add-f : goal.overflow_add-f
overflow_add-f c =
    omega (arith, held _ _ c.args.c c.args.f c.args.shift c.s.view_is c.args.base.now.base.sound c.requires.0 c.requires.2)

pub remainder-requires : goal.remainder-requires
remainder-requires c =
    omega (arith, held _ _ c.args.c c.args.f c.args.shift c.s.view_is c.args.base.now.base.sound c.requires.0 c.requires.2)

pub remainder-requires-2 : goal.remainder-requires-2
remainder-requires-2 c =
    omega (arith, held _ _ c.args.c c.args.f c.args.shift c.s.view_is c.args.base.now.base.sound c.requires.0 c.requires.2)

pub returns : goal.returns
returns c =
    let base = c.args.base.now in
    let s = timed_street base.street.now in
    let h = 2 * base.street.now.cycle in
    let sign = c.signed.ensures ∙ ap (λ (x : Checked). pos base.raised -ℤ pos (2 * x.cycle)) c.s.view_is in
    let B_read : to_z w32 (of_z w32 c.signed.result) ≡ B s =
    reread c.signed.result base.raised h (omega (arith, base.base.small, base.base.sound.longest)) (omega (arith, base.base.sound.longest)) sign
    ∙ sign
    ∙ base.base.width in
    let same = c.requires.0 in
    let own = c.requires.2 in
    let w = c.reported-reported.ensures in
    let held_s : Timed = timed_street (record { road = c.s.inside.road; cycle = c.s.inside.cycle; reds = c.s.inside.reds }) in
    let f = c.args.f in
    λ i.
    record {
      reference = same i + 1;
      b = B_read i;
      outbound = (w i).outbound;
      inbound = (w i).inbound;
      rounded = (c.s.view_is i).road.rounded;
      starts =
          (c.remainder.ensures
          ∙ red_end_man held_s c.args.c f
          ∙ ap (λ (x : Checked). red_end (timed_street x) c.args.c f) c.s.view_is
          ∙ ap₂ (red_end s) same own) i;
      ends =
          (c.remainder-2.ensures
          ∙ red_start_man held_s c.args.c f
          ∙ ap (λ (x : Checked). red_start (timed_street x) c.args.c f) c.s.view_is
          ∙ ap₂ (red_start s) same own) i;
    }
