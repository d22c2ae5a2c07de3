use Prim.Native.Nat.{ℕ, ◌+◌, ◌<◌}
use mathlib.Core.Path.{◌≡◌, sym, subst, ap, ◌∙◌}
use native.Mathlib.Omega.{arith}
use lib.ListN.{get_or, length}
use Rattle.std.proofs.lemmas.List.{length-take, take_all}
use Rattle.circle.proofs.Stretches.{best_passed}
use Rattle.stretches.specs.declared.Band.{Band}
use Rattle.stretches.specs.Steps.{seen_by, longest_from}
use Rattle.stretches.proofs.SearchLaws.{BestBand, none_seen, more-seen, best_seen}
use Rattle.stretches.proofs.widest.Goals as goal
use Rattle.stretches.proofs.widest.Goals.{then-red-gt0, else-red-gt0}

pub loop-i-init : goal.loop-i-init
loop-i-init c =
    let a = c.args in
    let red : ℕ → ℕ = λ j. get_or a.reds.now j 0 in
    let whole = take_all c.bounded.result a.reds.now (omega arith) in
    none_seen a.h (length a.reds.now) red a.ends.now c.requires.2 c.longest-from_zero.result
    (c.longest-from_zero.ensures
    ∙ ap (λ reds. longest_from (seen_by a.h (length reds) (λ j. get_or reds j 0) a.ends.now) 0) whole)

pub loop-i-preserved : goal.loop-i-preserved
loop-i-preserved c =
    let a = c.args in
    let n = length a.reds.now in
    let red : ℕ → ℕ = λ j. get_or a.reds.now j 0 in
    let whole = take_all c.bounded.result a.reds.now (omega arith) in
    let i = c.loop-i.i in
    let here : i < n = omega (arith, c.loop-i-test.true, length-take {A = ℕ}) in
    let kept : (b : Band) → c.if-red-gt0.best ≡ b → BestBand (seen_by a.h n red a.ends.now) (i + 1) b → BestBand (seen_by a.h n red a.ends.now) (i + 1) c.if-red-gt0.best =
    λ b e. subst (BestBand (seen_by a.h n red a.ends.now) (i + 1)) (sym e) in
    elim c.if-red-gt0.branch [
      | then-red-gt0 w ↦
          kept w.wider-best.result w.best-is
          (more-seen a.h n red a.ends.now c.requires.2 i w.longest-width.result c.loop-i.best w.wider-best.result here c.loop-i.invariant
          (w.longest-width.ensures
          ∙ ap (λ reds. longest_from (seen_by a.h (length reds) (λ j. get_or reds j 0) a.ends.now) (get_or a.ends.now i 0)) whole)
          w.wider-best.ensures)
      | else-red-gt0 w ↦
          kept c.loop-i.best w.best-is
          (best_passed (seen_by a.h n red a.ends.now) i c.loop-i.best.width c.loop-i.best.start c.loop-i.invariant
          (omega (arith, ap (λ reds. get_or reds i 0) whole)))
    ]

pub returns : goal.returns
returns c =
    let a = c.args in
    let n = length a.reds.now in
    let red : ℕ → ℕ = λ j. get_or a.reds.now j 0 in
    let all : c.loop-i.i ≡ n = omega (arith, c.loop-i-test.false, length-take {A = ℕ}) in
    best_seen a.h n red a.ends.now c.requires.2 c.loop-i.best
    (subst (λ (k : ℕ). BestBand (seen_by a.h n red a.ends.now) k c.loop-i.best) all c.loop-i.invariant)
