use Prim.Native.Nat.{ℕ}
use mathlib.Core.Path.{◌≡◌, refl, ap, ◌∙◌}
use mathlib.Core.List.{List, ◌++◌}
use native.Mathlib.Omega.{arith}
use lib.ListN.{length, drop, get_or}
use Rattle.std.proofs.lemmas.List.{length-take}
use Rattle.std.proofs.lemmas.Grind.{common_steps}
use Rattle.circle.specs.Over.{list_below}
use Rattle.circle.proofs.Numbers.{fill_store, length_list_below}
use Rattle.seconds.specs.Seconds.{second_of}
use Rattle.seconds.proofs.convert.Invariants.{seconds}
use Rattle.seconds.proofs.convert.Goals as goal

-- the entry whose turn it is, in a list that is filled from the front, is still the old one
not_yet : (f : ℕ → ℕ) (old list : List ℕ) (j : ℕ) → list ≡ list_below j f ++ drop j old → get_or list j 0 ≡ get_or old j 0
not_yet f old list j is = let l = length_list_below j f in grind (arith, common_steps, l)

pub loop-j-init : goal.loop-j-init
unfolding list_below
loop-j-init c = refl

pub second-requires : goal.second-requires
second-requires c =
    let j = c.loop-j.j in
    let ready = c.requires.3 in
    let old = not_yet (seconds c.args.cycle c.args.frame c.args.reds.now c.args.list.now) c.args.list.now c.loop-j.list j c.loop-j.invariant in
    (c.requires.0, c.requires.1, c.requires.2, omega (arith, old, ready.offset j c.loop-j-test.true), ready.red j c.loop-j-test.true)

pub loop-j-preserved : goal.loop-j-preserved
loop-j-preserved c =
    let list = c.args.list.now in
    let f = seconds c.args.cycle c.args.frame c.args.reds.now list in
    let j = c.loop-j.j in
    let old = not_yet f list c.loop-j.list j c.loop-j.invariant in
    fill_store list c.loop-j.list f j c.second.result 0 (omega (arith, c.requires.3.long)) c.loop-j.invariant
    (c.second.ensures ∙ ap (λ (x : ℕ). second_of c.args.cycle c.args.frame x (get_or c.args.reds.now j 0)) old)

pub returns : goal.returns
returns c =
    let list = c.args.list.now in
    let f = seconds c.args.cycle c.args.frame c.args.reds.now list in
    let all : c.loop-j.j ≡ length c.args.reds.now = omega (arith, c.loop-j-test, length-take {A = ℕ}) in
    c.loop-j.invariant ∙ ap (λ (k : ℕ). list_below k f ++ drop k list) all
