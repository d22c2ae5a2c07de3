-- `equal_text` meets its contract: the text of the lists that were read, or the line of the refusal that the bytes earned.
use Rattle.sheet.proofs.Held.{reading_held}
use Rattle.printed.proofs.Ways.{passed_answers, refused_answers}
use Rattle.printed.proofs.equal_text.Goals as goal

pub planned-requires : goal.planned-requires
planned-requires c = reading_held c.in-Ok.ensures

pub returns-in-Ok : goal.returns-in-Ok
returns-in-Ok c = record { answer = _; answers = passed_answers c.args.room c.in-Ok.ensures; prints = c.planned.ensures }

pub returns-in-Err : goal.returns-in-Err
returns-in-Err c = record { answer = _; answers = refused_answers c.args.room c.in-Err.ensures; prints = c.answer_text.ensures }
