use Rattle.std.proofs.Common.{ℕ, ◌≡◌, ◌<◌, ◌++◌, List, sym, refl, ap, subst, ◌∙◌, drop}
use native.Mathlib.Omega.{arith}
use lib.ListN.{length-set}
use Rattle.circle.specs.Method.{Timed}
use Rattle.circle.specs.Over.{list_below}
use Rattle.circle.proofs.Numbers.{fill_store}
use Rattle.road.specs.Limits.{max_signals}
use Rattle.street.specs.Steps.{Checked, timed_street}
use Rattle.search.proofs.Pairs.{anchor_lt}
use Rattle.offsets.specs.Moved.{moved_offset}
use Rattle.offsets.specs.Steps.{Ready}
use Rattle.offsets.proofs.OffsetLaws.{ready_lt, side_small, offset_at_is}
use Rattle.offsets.proofs.write.Goals as goal

-- the reference is one of the signals
within : (s : Timed) (x : List ℕ) (c raised : ℕ) → Ready s x c raised → c < max_signals
within s x c raised ready = omega (arith, ready_lt s x c raised ready, ready.base.sound.few)

pub offset_bounds-anchors-c : goal.offset_bounds-anchors-c
offset_bounds-anchors-c c = omega (arith, within _ _ _ _ c.requires.0)

pub bounds-anchors-c : goal.bounds-anchors-c
bounds-anchors-c c = omega (arith, within _ _ _ _ c.requires.0)

pub offset_bounds-s-inside-c : goal.offset_bounds-s-inside-c
offset_bounds-s-inside-c c = omega (arith, within _ _ _ _ c.requires.0)

pub bounds-s-inside-c : goal.bounds-s-inside-c
bounds-s-inside-c c = omega (arith, within _ _ _ _ c.requires.0)

pub offset_bounds-s-inside-c-2 : goal.offset_bounds-s-inside-c-2
offset_bounds-s-inside-c-2 c = omega (arith, within _ _ _ _ c.requires.0)

pub bounds-s-inside-c-2 : goal.bounds-s-inside-c-2
bounds-s-inside-c-2 c = omega (arith, within _ _ _ _ c.requires.0)

pub loop-j-init : goal.loop-j-init
unfolding list_below
loop-j-init c = (refl, refl)

pub overflow_add-s-inside : goal.overflow_add-s-inside
overflow_add-s-inside c =
    let s : Timed = timed_street (record { road = c.s.inside.road; cycle = c.s.inside.cycle; reds = c.s.inside.reds }) in
    let ready = subst (λ (x : Checked). Ready (timed_street x) c.args.anchors.now c.args.c c.args.base.now.raised) (sym c.s.view_is) c.requires.0 in
    omega (arith, side_small s c.loop-j.j c.args.c c.s.invariant (omega arith) (ready_lt s _ _ _ ready))

pub overflow_add-out : goal.overflow_add-out
overflow_add-out c =
    let s : Timed = timed_street (record { road = c.s.inside.road; cycle = c.s.inside.cycle; reds = c.s.inside.reds }) in
    let ready = subst (λ (x : Checked). Ready (timed_street x) c.args.anchors.now c.args.c c.args.base.now.raised) (sym c.s.view_is) c.requires.0 in
    omega (arith, side_small s c.args.c c.loop-j.j c.s.invariant (ready_lt s _ _ _ ready) (omega arith))

pub offset_at-requires : goal.offset_at-requires
offset_at-requires c =
    let s : Timed = timed_street (record { road = c.s.inside.road; cycle = c.s.inside.cycle; reds = c.s.inside.reds }) in
    let ready = subst (λ (x : Checked). Ready (timed_street x) c.args.anchors.now c.args.c c.args.base.now.raised) (sym c.s.view_is) c.requires.0 in
    let ok = c.s.invariant in
    let i = c.args.c in
    let li = ready_lt s _ _ _ ready in
    let j = c.loop-j.j in
    let lj : j < s.signals = omega arith in
    let turns : 0 < s.cycle = omega (arith, ok.shortest) in
    let on-cycle = anchor_lt s c.args.anchors.now in
    (turns, ok.longest, on-cycle i ready.anchors li turns, on-cycle j ready.anchors lj turns, ok.goes j lj, c.requires.1, side_small s j i ok lj li, side_small s i j ok li lj)

pub loop-j-preserved : goal.loop-j-preserved
loop-j-preserved c =
    let s : Timed = timed_street (record { road = c.s.inside.road; cycle = c.s.inside.cycle; reds = c.s.inside.reds }) in
    let ready = subst (λ (x : Checked). Ready (timed_street x) c.args.anchors.now c.args.c c.args.base.now.raised) (sym c.s.view_is) c.requires.0 in
    let signals = ap (λ (x : Checked). x.road.signals) c.s.view_is in
    let at = c.loop-j in
    let is = offset_at_is s c.args.anchors.now c.args.c c.args.base.now.raised at.j c.offset_at.result c.args.shift ready (omega arith) c.offset_at.ensures in
    let store = fill_store c.args.offsets.now at.offsets (moved_offset c.args.shift s) at.j c.offset_at.result 0 in
    (simp length-set at.invariant.0, store (omega (arith, signals, c.requires.2)) at.invariant.1 is)

pub returns : goal.returns
returns c =
    let s : Timed = timed_street (record { road = c.s.inside.road; cycle = c.s.inside.cycle; reds = c.s.inside.reds }) in
    let all : c.loop-j.j ≡ c.s.inside.road.signals = omega arith in
    c.loop-j.invariant.1
    ∙ ap (λ (k : ℕ). list_below k (moved_offset c.args.shift s) ++ drop k c.args.offsets.now) all
    ∙ ap (λ (x : Checked). list_below x.road.signals (moved_offset c.args.shift (timed_street x)) ++ drop x.road.signals c.args.offsets.now) c.s.view_is
