use Rattle.std.proofs.Common.{ℕ, ◌+◌, ◌<◌, ◌≡◌, sym, subst, subst₂, [], length, get_or, arith, length-set}
use Rattle.circle.proofs.Formulas.{rank}
use Rattle.street.specs.Steps.{timed_with}
use Rattle.search.proofs.Leading.{leader_is, Leading, leads_first, leads_new, leads_still, row_set, fit_sound, candidate_front}
use Rattle.search.specs.Steps.{PairRow, Finds}
use Rattle.search.proofs.reference.Goals as goal
use Rattle.search.proofs.reference.Goals.{then-most-candidate, else-most-candidate}

pub loop-i-preserved : goal.loop-i-preserved
loop-i-preserved c =
    let a = c.args in
    let loop = c.loop-i in
    let in_table : loop.i < length loop.widths = omega arith in (
      simp length-set loop.invariant.0,
      λ q l.
          row_set (PairRow a.cycle c.bounded-n.result a.reds.now a.anchors.now) loop.widths loop.i _ q in_table
          (subst (λ (n : ℕ). PairRow a.cycle n a.reds.now a.anchors.now loop.i c.fill.new.row) (sym c.bounded-n.ensures) c.fill.ensures)
          (λ other. loop.invariant.1 q (omega (arith, other))),
    )

pub loop-k-init : goal.loop-k-init
loop-k-init c =
    let a = c.args in
    let rows = c.loop-i in
    λ out back ok anchors. leads_first _ _ (candidate_front a.cycle _ a.reds.now a.anchors.now out back 0 (get_or rows.widths 0 []) c.rank-most.result ok anchors (omega arith) (omega arith) (rows.invariant.1 0 (omega arith)) c.rank-most.ensures)

pub loop-k-preserved : goal.loop-k-preserved
loop-k-preserved c =
    let a = c.args in
    let n = c.bounded-n.result in
    let rows = c.loop-i in
    let loop = c.loop-k in
    let k = loop.k in
    let new = c.rank-candidate in
    λ out back ok anchors.
    let g = rank (timed_with a.cycle n a.reds.now out back) in
    let lead = loop.invariant out back ok anchors in
    let here =
    candidate_front a.cycle n a.reds.now a.anchors.now out back k (get_or rows.widths k []) new.result ok anchors (omega arith) (omega arith) (rows.invariant.1 k (omega arith)) new.ensures in
    elim c.if-most-candidate.branch [
      | then-most-candidate w ↦ subst₂ (Leading g (k + 1)) (sym w.signal-is) (sym w.most-is) (leads_new g k loop.signal loop.most new.result lead w.if-most-candidate.true here)
      | else-most-candidate w ↦ subst₂ (Leading g (k + 1)) (sym w.signal-is) (sym w.most-is) (leads_still g k loop.signal loop.most new.result lead w.if-most-candidate.false here)
    ]

pub returns : goal.returns
returns c =
    let a = c.args in
    let n = c.bounded-n in
    let loop = c.loop-k in
    let all : loop.k ≡ n.result = omega arith in
    subst (λ (k : ℕ). Finds a.cycle k a.reds.now a.anchors.now (record { signal = loop.signal; raised = c.settled.result })) n.ensures
    (record {
      each =
          λ out back ok anchors.
          let s = timed_with a.cycle n.result a.reds.now out back in
          leader_is s (fit_sound s ok) loop.k loop.signal loop.most c.settled.result all (loop.invariant out back ok anchors) c.settled.ensures;
    })
