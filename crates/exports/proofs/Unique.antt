-- Each contract settles the reply and, where a list is lent, its final content: two that a contract allows at the same entry are equal. Assumes nothing.
use Prim.Native.Nat.{ℕ}
use mathlib.Core.Path.{◌≡◌, sym, ap, ◌∙◌}
use mathlib.Core.List.{List}
use lib.Ieee.{Float}
use Rattle.road.specs.Limits.{max_signals}
use Rattle.street.specs.Lists.{Lists}
use Rattle.street.proofs.Unique.{Same, same}
use Rattle.sheet.proofs.Unique as sheet
use Rattle.plans.specs.Answers.{Answer}
use Rattle.plans.proofs.Unique.{carries_unique}
use Rattle.bands.specs.Measure.{measurement_of}
use Rattle.survey.specs.Typing.{lists_reading}
use Rattle.printed.proofs.Unique.{prints_answer_unique}
use Rattle.flat.specs.declared.CorbatanPlan.{CorbatanPlan}
use Rattle.flat.specs.declared.CorbatanVolumes.{CorbatanVolumes}
use Rattle.flat.specs.declared.CorbatanMeasure.{CorbatanMeasure}
use Rattle.flat.specs.declared.CorbatanSheet.{CorbatanSheet}
use Rattle.flat.specs.declared.CorbatanWriting.{CorbatanWriting}
use Rattle.flat.specs.declared.CorbatanText.{CorbatanText}
use Rattle.flat.specs.Flat.{flat_carried, flat_measure, flat_reading, flat_text}
use Rattle.exports.specs.Calls.{FlatAnswer, FlatCarries, FlatReads, FlatWrites, FlatPrints}

-- of any answer and list, and so of each of the four calls for plans and of the five for seconds
pub answer_unique : (a : Answer) (list exit exit' : List ℕ) (r r' : CorbatanPlan) → FlatAnswer a list exit r → FlatAnswer a list exit' r' → Same r r' exit exit'
answer_unique a list exit exit' r r' one other = same one.reply other.reply one.after other.after

pub volumes_unique : (out back h : ℕ) (l : Lists) (entry exit exit' : List ℕ) (r r' : CorbatanVolumes) → FlatCarries out back h l entry exit r → FlatCarries out back h l entry exit' r' → Same r r' exit exit'
volumes_unique out back h l entry exit exit' r r' one other =
    let one-plan = carries_unique out back h l entry exit exit' one.carried other.carried one.carries other.carries in
    record { reply = one.reply ∙ ap flat_carried one-plan.reply ∙ sym other.reply; after = one-plan.after }

pub measure_unique : (l : Lists) (offsets : List ℕ) (r r' : CorbatanMeasure) → r ≡ flat_measure (measurement_of l offsets) → r' ≡ flat_measure (measurement_of l offsets) → r ≡ r'
measure_unique l offsets r r' one other = one ∙ sym other

pub read_unique : (bytes : List ℕ) (r r' : CorbatanSheet) → FlatReads bytes r → FlatReads bytes r' → r ≡ r'
read_unique bytes r r' one other =
    one.reply ∙ ap flat_reading (sheet.read_unique bytes one.reading other.reading one.reads other.reads) ∙ sym other.reply

pub survey_unique : (cycle : ℕ) (kinds : List ℕ) (positions outbound inbound : List Float) (reds : List ℕ) (r r' : CorbatanSheet) → r ≡ flat_reading (lists_reading cycle kinds positions outbound inbound reds) → r' ≡ flat_reading (lists_reading cycle kinds positions outbound inbound reds) → r ≡ r'
survey_unique cycle kinds positions outbound inbound reds r r' one other = one ∙ sym other

pub write_unique : (l : Lists) (entry exit exit' : List ℕ) (r r' : CorbatanWriting) → FlatWrites l entry exit r → FlatWrites l entry exit' r' → Same r r' exit exit'
write_unique l entry exit exit' r r' one other = same one.reply other.reply one.after other.after

pub print_unique : (bytes : List ℕ) (r r' : CorbatanText) → FlatPrints bytes r → FlatPrints bytes r' → r ≡ r'
print_unique bytes r r' one other =
    one.reply ∙ ap flat_text (prints_answer_unique bytes max_signals one.printed other.printed one.prints other.prints) ∙ sym other.reply
