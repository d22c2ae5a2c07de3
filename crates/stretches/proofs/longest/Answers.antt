use Prim.Native.Nat.{ℕ}
use mathlib.Core.Path.{◌≡◌, refl, sym, ap, ◌∙◌}
use native.Mathlib.Omega.{arith}
use lib.ListN.{get_or, length}
use Rattle.circle.proofs.Numbers.Over.{min_below, min_more}
use Rattle.circle.proofs.Stretches.{left, longest-least}
use Rattle.stretches.specs.Steps.{seen_by}
use Rattle.stretches.proofs.SearchLaws.{proper_seen, left-seen}
use Rattle.stretches.proofs.longest.Goals as goal

pub loop-j-init : goal.loop-j-init
unfolding min_below
loop-j-init c = refl

pub loop-j-preserved : goal.loop-j-preserved
loop-j-preserved c =
    let a = c.args in
    let n = length a.reds.now in
    let red : ℕ → ℕ = λ k. get_or a.reds.now k 0 in
    let leaves = c.left.ensures ∙ left-seen a.h n red a.ends.now c.requires.1 a.x c.loop-j.j c.loop-j-test.true in
    omega (arith, leaves, min_more a.h c.loop-j.j (left (seen_by a.h n red a.ends.now) a.x), c.loop-j.invariant)

pub returns : goal.returns
returns c =
    let a = c.args in
    let n = length a.reds.now in
    let red : ℕ → ℕ = λ k. get_or a.reds.now k 0 in
    let w = seen_by a.h n red a.ends.now in
    let all : c.loop-j.j ≡ n = omega arith in
    c.loop-j.invariant
    ∙ ap (λ (k : ℕ). min_below a.h k (left w a.x)) all
    ∙ sym (longest-least w (proper_seen a.h n red a.ends.now c.requires.1) a.x)
