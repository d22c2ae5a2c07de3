use Rattle.std.proofs.Common.{ℕ, zero, suc, ◌+◌, max, Bool, true, false, cond, ◌≡◌, refl, sym, ap, ap₂, ◌∙◌, ℤ, pos, arith}
use Rattle.circle.specs.Over.{all_below, over_below, least_below}
use Rattle.circle.specs.Signed.{leℤ, minℤ}
use Rattle.circle.proofs.Numbers.{pos_min, least_more}
use Rattle.search.specs.Steps.{wider}
use Rattle.search.proofs.least.Goals as goal

-- a number beside the least before it, of the first at least
least_next : (j : ℕ) (f : ℕ → ℤ) → minℤ (least_below (max 1 j) f) (f j) ≡ least_below (max 1 (j + 1)) f
unfolding over_below all_below
least_next zero f = go (leℤ (f 0) (f 0))
  where
    go : (t : Bool) → cond t (f 0) (f 0) ≡ f 0
    go true = refl
    go false = refl
least_next (suc j) f =
    let own : max 1 (suc j) ≡ suc j = omega arith in
    let next : max 1 (suc j + 1) ≡ suc j + 1 = omega arith in
    ap (λ (k : ℕ). minℤ (least_below k f) (f (suc j))) own ∙ sym (least_more (suc j) f (omega arith)) ∙ ap (λ (k : ℕ). least_below k f) (sym next)

pub loop-widths-init : goal.loop-widths-init
unfolding over_below all_below
loop-widths-init c = ap pos c.max-low.ensures

pub loop-widths-preserved : goal.loop-widths-preserved
loop-widths-preserved c =
    let loop = c.loop-widths in
    let f : ℕ → ℤ = λ q. pos (wider c.args.row.now q) in
    let here : c.max.result ≡ wider c.args.row.now loop.widths-index = c.max.ensures in
    ap pos c.min-low.ensures ∙ pos_min loop.low c.max.result ∙ ap₂ minℤ loop.invariant (ap pos here) ∙ least_next loop.widths-index f
