-- `corbatan_read` meets its contract: the reading is what `sheet::fill` answered with the numbers that it left, and the struct has these.
use mathlib.Core.Path.{sym, ap, ◌∙◌}
use Rattle.street.specs.Codes.{code_of, place_of}
use Rattle.street.specs.Verdicts.{answered}
use Rattle.flat.specs.Flat.{flat_sheet}
use Rattle.flat.proofs.Laws.{reading_flat}
use Rattle.street.proofs.Sound.{answer_tells}
use Rattle.exports.proofs.corbatan_read.Goals as goal

pub returns : goal.returns
returns c =
    let v = c.fill-verdict.result in
    let s = c.fill-verdict.new.sheet in
    let e = sym (answer_tells v s) in
    record {
      reading = answered v s;
      reads = c.fill-verdict.ensures.reading;
      reply =
          c.reading.ensures
          ∙ ap (flat_sheet (code_of v) (place_of v)) c.fill-verdict.ensures.beside
          ∙ reading_flat (answered v s) (code_of v) (place_of v) (ap code_of e) (ap place_of e);
    }
