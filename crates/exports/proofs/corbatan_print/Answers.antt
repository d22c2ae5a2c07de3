-- `exports::corbatan_print` meets its contract: the struct holds what `printed::equal_text` printed over a list that no street overfills.
use Rattle.exports.proofs.corbatan_print.Goals as goal

pub returns : goal.returns
returns c = record { printed = c.equal_text.result; prints = c.equal_text.ensures; reply = c.from.ensures }
