-- `search::rank` meets its contract: a candidate that rests ranks 0. The check finds this alone; written out, a refusal shows both ranks.
use Rattle.std.proofs.Common.{◌≡◌, length, sym, ap, arith}
use Rattle.search.specs.Steps.{rank_of}
use Rattle.search.proofs.rank.Goals as goal

pub returns-then-red-eq0 : goal.returns-then-red-eq0
returns-then-red-eq0 c =
    let row = c.args.row.now in
    let rests : c.args.red ≡ 0 = omega arith in
    sym (ap (rank_of (length row) row) rests)
