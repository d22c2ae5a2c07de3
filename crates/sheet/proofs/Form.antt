-- The reader accepts exactly the texts of writable streets. A text is brought into the order in which it is read, and then each section is read back;
-- the other way, each section that was read was written, and a street's numbers are those that the sections gave. Assumes nothing.
use Prim.Native.Nat.{ℕ, ◌-◌, ◌≤◌}
use mathlib.Core.Path.{◌≡◌, refl, sym, ap, subst, ◌∙◌}
use mathlib.Core.List.{List, [], ◌∷◌, ◌++◌, append_assoc, append-nil}
use native.Mathlib.Omega.{arith}
use native.Mathlib.Nat.{le_refl}
use lib.Dec.{leb}
use lib.ListN.{length}
use borrow.Author.Tests.{le-leb, leb-true}
use Rattle.road.specs.Limits.{min_signals, max_signals}
use Rattle.std.specs.Prelude.{Option, Result, Ok, Err, ok_or}
use Rattle.street.specs.Lists.{Lists, signals, typed}
use Rattle.street.specs.declared.Code.{Code}
use Rattle.street.specs.declared.Code.TheVariants.{Sheet}
use Rattle.decimal.specs.Decimal.{decimal}
use Rattle.decimal.specs.Lines.{line_end}
use Rattle.sheet.specs.Form.{max_bytes, pair_lines, text, EightDigits, Writable}
use Rattle.sheet.specs.Steps.Sections.{Lines, pairs, goes_on, section, cycle_section}
use Rattle.sheet.specs.Steps.Parsed.{at_end, after_signals, after_cycle, parsed}
use Rattle.sheet.proofs.Backwards.{past_ok, past_sheet, past_test, not_read}
use Rattle.sheet.proofs.LineForms.{pairs_read, section_read, cycle_read, SectionWrote, section_wrote, cycle_wrote}

-- what follows the cycle's line, and what follows the signals' lines
abbrev from_links : Lists → List ℕ
from_links l = decimal (signals l - 1) ++ line_end ∷ (pair_lines l.outbound l.inbound ++ [])

abbrev from_signals : Lists → List ℕ
from_signals l = decimal (signals l) ++ line_end ∷ (pair_lines l.distances l.reds ++ from_links l)

-- a text in the order in which it is read
in_order : (l : Lists) → text l ≡ decimal 1 ++ line_end ∷ (decimal l.cycle ++ line_end ∷ from_signals l)
unfolding text
in_order l = simp (append_assoc, append-nil)

module _ (l : Lists) (w : Writable l) where
  signals_read : section min_signals max_signals (from_signals l) ≡ Ok (l.distances, l.reds, from_links l)
  signals_read =
      section_read min_signals max_signals (signals l) (pair_lines l.distances l.reds ++ from_links l) w.some w.few (omega (arith, w.few))
      ∙ ap (λ (k : ℕ). ok_or (pairs k (pair_lines l.distances l.reds ++ from_links l)) Sheet) (sym w.distances)
      ∙ ap (λ (o : Option Lines). ok_or o Sheet) (pairs_read l.distances l.reds (from_links l) (sym w.distances) w.short_distances w.short_reds)

  links_read : section (signals l - 1) (signals l - 1) (from_links l) ≡ Ok (l.outbound, l.inbound, [])
  links_read =
      section_read (signals l - 1) (signals l - 1) (signals l - 1) (pair_lines l.outbound l.inbound ++ []) (le_refl _) (le_refl _) (omega (arith, w.few))
      ∙ ap (λ (k : ℕ). ok_or (pairs k (pair_lines l.outbound l.inbound ++ [])) Sheet) (sym w.outbound)
      ∙ ap (λ (o : Option Lines). ok_or o Sheet) (pairs_read l.outbound l.inbound [] (w.inbound ∙ sym w.outbound) w.short_outbound w.short_inbound)

-- the text of a writable street is accepted, with that street's numbers
pub text_is_accepted : (l : Lists) → Writable l → parsed (text l) ≡ Ok l
unfolding parsed after_cycle after_signals
text_is_accepted l w =
    rw
    (le-leb (length (text l)) max_bytes w.fits, in_order l, cycle_read l.cycle (from_signals l) w.short_cycle, signals_read l w, links_read l w)
    refl

-- two writable streets with one text are one street
pub text_tells : (l m : Lists) → Writable l → Writable m → text l ≡ text m → l ≡ m
text_tells l m v w e = cc (sym (text_is_accepted l v) ∙ ap parsed e ∙ text_is_accepted m w)

past_end : (m l : Lists) (bytes : List ℕ) → at_end m bytes ≡ Ok l → (bytes ≡ []) × (m ≡ l)
past_end m l [] e = (refl, cc)
past_end m l (b ∷ bytes) e = cc

-- three sections that were read, one after the other, are the text of their numbers
read_is_text : (bytes : List ℕ) (cycle : ℕ) (distances reds outbound inbound after later : List ℕ) → length bytes ≤ max_bytes →
    (bytes ≡ decimal 1 ++ line_end ∷ (decimal cycle ++ line_end ∷ after)) × EightDigits cycle →
    SectionWrote min_signals max_signals after (distances, reds, later) →
    SectionWrote (length reds - 1) (length reds - 1) later (outbound, inbound, []) →
    (bytes ≡ text (typed cycle reds distances outbound inbound)) × Writable (typed cycle reds distances outbound inbound)
read_is_text bytes cycle distances reds outbound inbound after later short c s k = (
  is,
  record {
    some = omega (arith, as_distances, s.counted.low);
    few = omega (arith, as_distances, s.counted.high);
    distances = sym as_distances;
    outbound = as_links;
    inbound = k.counted.even ∙ as_links;
    short_cycle = c.1;
    short_reds = s.rights;
    short_distances = s.lefts;
    short_outbound = k.lefts;
    short_inbound = k.rights;
    fits = subst (λ (b : List ℕ). length b ≤ max_bytes) is short;
  },
)
  where
    as_distances : length reds ≡ length distances
    as_distances = s.counted.even

    as_links : length outbound ≡ length reds - 1
    as_links = omega (arith, k.counted.low, k.counted.high)

    is : bytes ≡ text (typed cycle reds distances outbound inbound)
    is =
        c.0
        ∙ ap (λ (b : List ℕ). decimal 1 ++ line_end ∷ (decimal cycle ++ line_end ∷ b))
        (s.form
        ∙ ap (λ (n : ℕ). decimal n ++ line_end ∷ (pair_lines distances reds ++ later)) (sym as_distances)
        ∙ ap (λ (b : List ℕ). decimal (length reds) ++ line_end ∷ (pair_lines distances reds ++ b))
        (k.form ∙ ap (λ (n : ℕ). decimal n ++ line_end ∷ (pair_lines outbound inbound ++ [])) as_links))
        ∙ sym (in_order (typed cycle reds distances outbound inbound))

-- bytes that are accepted are the text of the numbers they are accepted with, and that street is writable
pub accepted_is_text : (bytes : List ℕ) (l : Lists) → parsed bytes ≡ Ok l → (bytes ≡ text l) × Writable l
unfolding parsed after_cycle after_signals
accepted_is_text bytes l e =
    let after : ℕ × List ℕ → Result Lists Code = λ (cycle, rest). after_cycle cycle rest in
    let t = past_test (goes_on after (ok_or (cycle_section bytes) Sheet)) (Err Sheet) (Ok l) (not_read Sheet l) (leb (length bytes) max_bytes) e in
    let c = past_sheet after (cycle_section bytes) (Ok l) (not_read Sheet l) t.1 in
    let s = past_ok (λ (t : Lines). after_signals c.0.0 t.0 t.1 t.2) (section min_signals max_signals c.0.1) l c.2 in
    let n : ℕ = length s.0.1 - 1 in
    let k = past_ok (λ (t : Lines). at_end (typed c.0.0 s.0.1 s.0.0 t.0 t.1) t.2) (section n n s.0.2) l s.2 in
    let street : Lists = typed c.0.0 s.0.1 s.0.0 k.0.0 k.0.1 in
    let z = past_end street l k.0.2 k.2 in
    let none : (k.0.0, k.0.1, k.0.2) ≡ (k.0.0, k.0.1, []) = ap (λ (r : List ℕ). (k.0.0, k.0.1, r)) z.0 in
    subst (λ (m : Lists). (bytes ≡ text m) × Writable m) {x = street} z.1
    (read_is_text bytes c.0.0 s.0.0 s.0.1 k.0.0 k.0.1 c.0.1 s.0.2
    (leb-true (length bytes) max_bytes t.0)
    (cycle_wrote bytes c.0.0 c.0.1 c.1)
    (section_wrote min_signals max_signals c.0.1 s.0 s.1)
    (section_wrote n n s.0.2 (k.0.0, k.0.1, []) (k.1 ∙ ap Ok none)))
