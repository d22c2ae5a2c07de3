-- `exports::seconds_for` meets its contract: the reply is that of `cabinets::plan_for` in C's struct, and the list is as that call left it.
use Rattle.exports.proofs.Laws.{answer_flat}
use Rattle.exports.proofs.seconds_for.Goals as goal

pub returns : goal.returns
returns c =
    let called = c.plan_for.ensures in
    answer_flat called.reply called.after c.from.ensures
