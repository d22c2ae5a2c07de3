-- What a section that was read tells: how many lines, that the count is within its bounds, and what its columns are where two arrays hold them. Assumes nothing.
use Prim.Native.Nat.{ℕ, zero, suc, ◌≤◌}
use mathlib.Core.Bool.{cond}
use mathlib.Core.Path.{◌≡◌, refl, sym, ap, ◌∙◌}
use mathlib.Core.List.{List, []}
use native.Mathlib.Omega.{arith}
use lib.Dec.{leb}
use lib.ListN.{length}
use borrow.Author.Tests.{leb-true}
use Rattle.std.specs.Prelude.{Option, Some, None, option_map, Result, Ok, Err, ok_or}
use Rattle.circle.proofs.Numbers.{cond_left, cond_right}
use Rattle.street.specs.Checks.{within}
use Rattle.street.specs.declared.Code.{Code}
use Rattle.street.specs.declared.Code.TheVariants.{Sheet, Count}
use Rattle.decimal.specs.Lines.{line_end}
use Rattle.sheet.specs.Steps.Numbers.{number}
use Rattle.sheet.specs.Steps.Sections.{Lines, in_arrays, pairs, judged_count, section, InArrays}
use Rattle.sheet.proofs.Backwards.{past_ok, past_or, past_sheet, past_test, past_map, past_pairs, not_read, FirstLine}

-- as many entries in each column as there are lines
pub pairs_length : (n : ℕ) (bytes : List ℕ) (l : Lines) → pairs n bytes ≡ Some l → (length l.0 ≡ n) × (length l.1 ≡ n)
unfolding pairs
pairs_length zero bytes l e = let none : ([], [], bytes) ≡ l = cc in (rw (← none) refl, rw (← none) refl)
pairs_length (suc n) bytes l e =
    let f : FirstLine n bytes l = past_pairs n bytes l e in
    let i = pairs_length n f.after f.below f.rest in
    (rw (← f.is) (ap suc i.0), rw (← f.is) (ap suc i.1))

-- a count that was read, and judged
pub record Judged (least most : ℕ) (bytes : List ℕ) (n : ℕ) (rest : List ℕ) : Type 0 where
  pub line : number line_end bytes ≡ Some (n, rest)
  pub low : least ≤ n
  pub high : n ≤ most

pub past-counted : (least most : ℕ) (bytes : List ℕ) (n : ℕ) (rest : List ℕ) → judged_count least most bytes ≡ Ok (n, rest) → Judged least most bytes n rest
unfolding judged_count
past-counted least most bytes n rest e =
    let judge : ℕ × List ℕ → Result (ℕ × List ℕ) Code = λ t. cond (within least most t.0) (Ok t) (Err Count) in
    let p = past_sheet judge (number line_end bytes) (Ok (n, rest)) (not_read Sheet (n, rest)) e in
    let t = past_test (Ok p.0) (Err Count) (Ok (n, rest)) (not_read Count (n, rest)) (within least most p.0.0) p.2 in
    let same : p.0 ≡ (n, rest) = cc (t.1) in
    let is : p.0.0 ≡ n = ap (λ u. u.0) same in
    record {
      line = p.1 ∙ ap Some same;
      low = rw (← is) (leb-true least p.0.0 (cond_left (leb least p.0.0) (leb p.0.0 most) t.0));
      high = rw (← is) (leb-true p.0.0 most (cond_right (leb least p.0.0) (leb p.0.0 most) t.0));
    }

-- a section that was read: its count, and its lines
pub record SectionOf (least most : ℕ) (bytes : List ℕ) (l : Lines) : Type 0 where
  pub count : ℕ
  pub after : List ℕ
  pub judged : Judged least most bytes count after
  pub below : pairs count after ≡ Some l

pub past-section : (least most : ℕ) (bytes : List ℕ) (l : Lines) → section least most bytes ≡ Ok l → SectionOf least most bytes l
unfolding section
past-section least most bytes l e =
    let p = past_ok (λ (t : ℕ × List ℕ). ok_or (pairs t.0 t.1) Sheet) (judged_count least most bytes) l e in
    record {
      count = p.0.0;
      after = p.0.1;
      judged = past-counted least most bytes p.0.0 p.0.1 p.1;
      below = past_or (pairs p.0.0 p.0.1) Sheet l p.2;
    }

-- the lines of a section that was read
pub record Counted (least most : ℕ) (xs ys : List ℕ) : Type 0 where
  pub low : least ≤ length xs
  pub high : length xs ≤ most
  pub even : length ys ≡ length xs

pub section-counted : (least most : ℕ) (bytes : List ℕ) (l : Lines) → section least most bytes ≡ Ok l → Counted least most l.0 l.1
section-counted least most bytes l e =
    let g : SectionOf least most bytes l = past-section least most bytes l e in
    let n = pairs_length g.count g.after l g.below in
    record { low = omega (arith, n.0, g.judged.low); high = omega (arith, n.0, g.judged.high); even = n.1 ∙ sym n.0 }

-- ---- in the code's arrays

module _ (least most : ℕ) (bytes : List ℕ) where
  pub no_count : (c : Code) → judged_count least most bytes ≡ Err c → section least most bytes ≡ Err c
  unfolding section
  no_count c e = rw e refl

  module _ (n : ℕ) (rest : List ℕ) (e : judged_count least most bytes ≡ Ok (n, rest)) where
    pub no_lines : pairs n rest ≡ None → section least most bytes ≡ Err Sheet
    unfolding section
    no_lines q = rw (e, q) refl

    pub in_arrays_lem : (left right after : List ℕ) → option_map in_arrays (pairs n rest) ≡ Some (left, right, after) → InArrays (section least most bytes) least most n left right after
    unfolding section
    in_arrays_lem left right after q =
        let p = past_map in_arrays (pairs n rest) (left, right, after) q in
        let j : Judged least most bytes n rest = past-counted least most bytes n rest e in
        let behind : p.0.2 ≡ after = ap (λ t. t.2) p.2 in
        record {
          lefts = p.0.0;
          rights = p.0.1;
          is = rw e (ap (λ (o : Option Lines). ok_or o Sheet) p.1 ∙ ap (λ (r : List ℕ). Ok (p.0.0, p.0.1, r)) behind);
          low = j.low;
          high = j.high;
          counted = (pairs_length n rest p.0 p.1).1;
          in_left = sym (ap (λ t. t.0) p.2);
          in_right = sym (ap (λ t. t.1) p.2);
        }
