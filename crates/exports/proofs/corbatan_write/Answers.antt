-- `exports::corbatan_write` meets its contract: the reply is that of `writer::write` in C's struct, and the list is as that call left it.
use Rattle.std.proofs.Common.{ap, subst, ◌∙◌}
use Rattle.street.specs.Lists.{Lists}
use Rattle.writer.specs.Writing.{WritesSheet}
use Rattle.flat.specs.Flat.{flat_writing}
use Rattle.exports.proofs.corbatan_write.Goals as goal

pub returns : goal.returns
returns c =
    let written = subst (λ (l : Lists). WritesSheet l c.args.bytes.now c.write.new.bytes c.write.result) c.new-typed.ensures c.write.ensures in
    record { reply = c.from.ensures ∙ ap flat_writing written.reply; after = written.after }
