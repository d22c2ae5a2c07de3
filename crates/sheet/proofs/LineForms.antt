-- Lines, sections and the cycle: reading what the form writes gives the numbers back, and what was read is what the form writes. Both go line by line over the
-- laws of Decimals, and only brackets move between a form and the bytes that are read. Assumes nothing.
use Prim.Native.Nat.{ℕ, zero, suc, ◌≤◌}
use mathlib.Core.Bool.{cond}
use mathlib.Core.Path.{◌≡◌, refl, sym, ap, subst, ◌∙◌}
use mathlib.Core.List.{List, [], ◌∷◌, ◌++◌, append_assoc}
use native.Mathlib.Omega.{arith}
use lib.Dec.{eqb, lit<}
use lib.ListN.{length}
use borrow.Author.Tests.{le-leb, eqb-true}
use Rattle.std.specs.Prelude.{Some, None, Ok, ok_or}
use Rattle.street.specs.declared.Code.TheVariants.{Sheet}
use Rattle.decimal.specs.Decimal.{decimal}
use Rattle.decimal.specs.Lines.{space, line_end}
use Rattle.sheet.specs.Form.{pair_lines, EightDigits, AllEightDigits}
use Rattle.sheet.specs.Steps.Numbers.{number}
use Rattle.sheet.specs.Steps.Sections.{Lines, pair, pairs, judged_count, section, cycle_section}
use Rattle.sheet.proofs.Backwards.{past_some, past_test, past_pairs, FirstLine}
use Rattle.sheet.proofs.Sections.{Counted, section-counted, pairs_length, SectionOf, past-section}
use Rattle.sheet.proofs.Decimals.{space_read, line_read, Wrote, number_wrote}

-- a line of two numbers and the bytes after it
pair-first : (x y : ℕ) (xs ys rest : List ℕ) →
    pair_lines (x ∷ xs) (y ∷ ys) ++ rest ≡ decimal x ++ space ∷ (decimal y ++ line_end ∷ (pair_lines xs ys ++ rest))
unfolding pair_lines
pair-first x y xs ys rest = simp append_assoc

-- ---- what is written is read

pub pairs_read : (xs ys rest : List ℕ) → length ys ≡ length xs → AllEightDigits xs → AllEightDigits ys →
    pairs (length xs) (pair_lines xs ys ++ rest) ≡ Some (xs, ys, rest)
unfolding pairs pair
pairs_read [] [] rest e s t = unfold pair_lines in refl
pairs_read [] (y ∷ ys) rest e s t = absurd (omega arith)
pairs_read (x ∷ xs) [] rest e s t = absurd (omega arith)
pairs_read (x ∷ xs) (y ∷ ys) rest e s t =
    let below : List ℕ = pair_lines xs ys ++ rest in
    rw
    (pair-first x y xs ys rest, space_read x (decimal y ++ line_end ∷ below) s.0, line_read y below t.0, pairs_read xs ys rest (omega arith) s.1 t.1)
    refl

pub section_read : (least most n : ℕ) (rest : List ℕ) → least ≤ n → n ≤ most → EightDigits n →
    section least most (decimal n ++ line_end ∷ rest) ≡ ok_or (pairs n rest) Sheet
unfolding section judged_count
section_read least most n rest low high s = rw (line_read n rest s, le-leb least n low, le-leb n most high) refl

pub cycle_read : (cycle : ℕ) (rest : List ℕ) → EightDigits cycle → cycle_section (decimal 1 ++ line_end ∷ (decimal cycle ++ line_end ∷ rest)) ≡ Some (cycle, rest)
unfolding cycle_section
cycle_read cycle rest s = rw (line_read 1 (decimal cycle ++ line_end ∷ rest) (lit< tt), line_read cycle rest s) refl

-- ---- what was read is what is written

pub record PairsWrote (bytes xs ys rest : List ℕ) : Type 0 where
  pub form : bytes ≡ pair_lines xs ys ++ rest
  pub lefts : AllEightDigits xs
  pub rights : AllEightDigits ys

pairs_wrote : (n : ℕ) (bytes : List ℕ) (l : Lines) → pairs n bytes ≡ Some l → PairsWrote bytes l.0 l.1 l.2
unfolding pairs
pairs_wrote zero bytes l e = let none : ([], [], bytes) ≡ l = cc in rw (← none) (record { form = unfold pair_lines in refl; lefts = tt; rights = tt })
pairs_wrote (suc n) bytes l e =
    let f : FirstLine n bytes l = past_pairs n bytes l e in
    let b = f.below in
    let u : Wrote bytes space f.x f.line.middle = number_wrote space f.x f.line.middle bytes f.line.first in
    let v : Wrote f.line.middle line_end f.y f.after = number_wrote line_end f.y f.after f.line.middle f.line.second in
    let w : PairsWrote f.after b.0 b.1 b.2 = pairs_wrote n f.after b f.rest in
    subst (λ (m : Lines). PairsWrote bytes m.0 m.1 m.2) f.is
    (record {
      form =
          u.form
          ∙ ap (λ (l : List ℕ). decimal f.x ++ space ∷ l) (v.form ∙ ap (λ (l : List ℕ). decimal f.y ++ line_end ∷ l) w.form)
          ∙ sym (pair-first f.x f.y b.0 b.1 b.2);
      lefts = (u.short, w.lefts);
      rights = (v.short, w.rights);
    })

pub record SectionWrote (least most : ℕ) (bytes : List ℕ) (l : Lines) : Type 0 where
  pub counted : Counted least most l.0 l.1
  pub form : bytes ≡ decimal (length l.0) ++ line_end ∷ (pair_lines l.0 l.1 ++ l.2)
  pub lefts : AllEightDigits l.0
  pub rights : AllEightDigits l.1

pub section_wrote : (least most : ℕ) (bytes : List ℕ) (l : Lines) → section least most bytes ≡ Ok l → SectionWrote least most bytes l
section_wrote least most bytes l e =
    let g : SectionOf least most bytes l = past-section least most bytes l e in
    let w : PairsWrote g.after l.0 l.1 l.2 = pairs_wrote g.count g.after l g.below in
    record {
      counted = section-counted least most bytes l e;
      form =
          (number_wrote line_end g.count g.after bytes g.judged.line).form
          ∙ ap (λ (k : ℕ). decimal k ++ line_end ∷ g.after) (sym (pairs_length g.count g.after l g.below).0)
          ∙ ap (λ (z : List ℕ). decimal (length l.0) ++ line_end ∷ z) w.form;
      lefts = w.lefts;
      rights = w.rights;
    }

pub cycle_wrote : (bytes : List ℕ) (cycle : ℕ) (rest : List ℕ) → cycle_section bytes ≡ Some (cycle, rest) →
    (bytes ≡ decimal 1 ++ line_end ∷ (decimal cycle ++ line_end ∷ rest)) × EightDigits cycle
unfolding cycle_section
cycle_wrote bytes cycle rest e =
    let p = past_some (λ (t : ℕ × List ℕ). cond (eqb t.0 1) (number line_end t.1) None) (number line_end bytes) (cycle, rest) e in
    let t = past_test (number line_end p.0.1) None (Some (cycle, rest)) (λ q. cc) (eqb p.0.0 1) p.2 in
    let v : Wrote bytes line_end p.0.0 p.0.1 = number_wrote line_end p.0.0 p.0.1 bytes p.1 in
    let w : Wrote p.0.1 line_end cycle rest = number_wrote line_end cycle rest p.0.1 t.1 in (
      v.form
          ∙ ap (λ (k : ℕ). decimal k ++ line_end ∷ p.0.1) (eqb-true p.0.0 1 t.0)
          ∙ ap (λ (z : List ℕ). decimal 1 ++ line_end ∷ z) w.form,
      w.short,
    )
