-- The contract of what prints determines its reply: two replies that it allows for the same text are equal (`answer_text`), a sheet has one text that answers it, and so
-- those that it allows for the same sheet are equal too (`equal_text`). Assumes nothing.
use mathlib.Core.Path.{◌≡◌, sym, subst, ◌∙◌}
use Prim.Native.Nat.{ℕ}
use mathlib.Core.List.{List}
use Rattle.sheet.proofs.ByForm.{same_by_form}
use Rattle.printed.specs.declared.Printed.{Printed}
use Rattle.printed.specs.Text.{refusal_line, Prints}
use Rattle.printed.specs.Way.{plan_text, Answers, PrintsAnswer}

pub prints_unique : (text : List ℕ) (r r' : Printed) → Prints text r → Prints text r' → r ≡ r'
prints_unique text r r' a b = a.reply ∙ sym b.reply

-- the text that answers a sheet
pub answers_unique : (bytes : List ℕ) (room : ℕ) (t t' : List ℕ) → Answers bytes room t → Answers bytes room t' → t ≡ t'
answers_unique bytes room t t' a b =
    same_by_form bytes (λ l. plan_text l room) (λ c. refusal_line (record { code = c; place = 0 })) t t' a b

pub prints_answer_unique : (bytes : List ℕ) (room : ℕ) (r r' : Printed) → PrintsAnswer bytes room r → PrintsAnswer bytes room r' → r ≡ r'
prints_answer_unique bytes room r r' a b =
    let same = answers_unique bytes room a.answer b.answer a.answers b.answers in
    prints_unique b.answer r r' (subst (λ t. Prints t r) same a.prints) b.prints
