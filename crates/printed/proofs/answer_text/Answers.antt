-- `answer_text` meets its contract. The buffer starts as zeros and has room for the text of 32 offsets, so what is written into it from the start is its whole text.
use Prim.Native.Nat.{ℕ, min}
use native.Mathlib.Nat.{zero-add}
use native.Mathlib.Omega.{arith}
use mathlib.Core.Path.{◌≡◌, ap, ◌∙◌}
use mathlib.Core.List.{List, ◌++◌}
use lib.ListN.{length, take, drop, replicate}
use Rattle.std.proofs.lemmas.List.{take_min}
use Rattle.road.specs.Limits.{max_signals}
use Rattle.decimal.specs.Steps.{Writes}
use Rattle.printed.specs.Text.{max_text, text_of, printed_of}
use Rattle.printed.specs.declared.Printed.{Printed}
use Rattle.printed.proofs.Sizes.{text_size}
use Rattle.printed.proofs.answer_text.Goals as goal

whole : {t l : List ℕ} {n : ℕ} → Writes 0 t (replicate max_text 0) l n → ◌≡◌ {A = Printed} record { bytes = l; count = n } (printed_of t)
whole {t} w =
    let start = zero-add (length t) in
    let bytes = w.after ∙ ap (λ (k : ℕ). t ++ drop k (replicate max_text 0)) start in
    let count = w.next ∙ start in
    λ i. record { bytes = bytes i; count = count i }

-- the first entries of a list, of which there are no more than it has
first : (n : ℕ) (xs : List ℕ) → n ≡ min (length xs) max_signals → take n xs ≡ take max_signals xs
first n xs e = let same : n ≡ min max_signals (length xs) = omega arith in rw same (take_min max_signals xs)

pub answer_lines-count-requires : goal.answer_lines-count-requires
answer_lines-count-requires c = text_size c.args.answer c.lent.result c.args.offsets.now (omega arith) (λ i. (c.type_inv.offsets i).fits)

pub returns : goal.returns
returns c =
    record {
      reply = whole c.answer_lines-count.ensures
          ∙ ap (λ xs. printed_of (text_of c.args.answer xs)) (first c.lent.result c.args.offsets.now c.lent.ensures);
    }
