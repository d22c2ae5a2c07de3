-- `exports::corbatan_survey` meets its contract: the reading is the library's, in C's struct.
use Rattle.std.proofs.Common.{ap, ◌∙◌}
use Rattle.flat.specs.Flat.{flat_reading}
use Rattle.exports.proofs.corbatan_survey.Goals as goal

pub returns : goal.returns
returns c = c.from.ensures ∙ ap flat_reading c.read_lists.ensures
