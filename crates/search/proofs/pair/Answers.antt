-- `search::pair` meets its contract: the second remainder goes on from the first.
use Rattle.std.proofs.Common.{ℕ, [], ◌∷◌, ap₂, ◌∙◌}
use Rattle.search.proofs.Pairs.{pair_is}
use Rattle.search.proofs.pair.Goals as goal

pub returns : goal.returns
returns c =
    let a = c.args in
    let even = c.back-even in
    let odd = c.back-odd in
    ap₂ (λ (x y : ℕ). x ∷ y ∷ []) c.leaves.ensures c.leaves-2.ensures
    ∙ pair_is a.cycle a.from a.to a.red even.result odd.result c.requires.0 even.ensures odd.ensures
