-- Code 2 exactly where a count is wrong. A wrong count's line is read as a number, and no other step of the reader answers code 2; the other way, what was read
-- before the count was written in the form. Assumes nothing.
use Prim.Native.Nat.{ℕ, ◌-◌, ◌≤◌, ◌<◌}
use mathlib.Core.Bool.{Bool, true, false, cond}
use mathlib.Core.Logic.{◌⊎◌, inl, inr, ⊎_elim}
use mathlib.Core.Path.{◌≡◌, refl, sym, ap, ◌∙◌}
use mathlib.Core.List.{List, [], ◌∷◌, ◌++◌, append_assoc}
use native.Mathlib.Omega.{arith}
use native.Mathlib.Decide.{dec_lt}
use lib.Dec.{leb}
use lib.ListN.{length}
use borrow.Author.Tests.{le-leb, lt-leb, leb-true}
use Rattle.road.specs.Limits.{min_signals, max_signals}
use Rattle.std.specs.Prelude.{Option, Some, None, Result, Ok, Err, ok_or}
use Rattle.street.specs.Lists.{Lists, typed}
use Rattle.street.specs.Checks.{within}
use Rattle.street.specs.declared.Code.{Code}
use Rattle.street.specs.declared.Code.TheVariants.{Sheet, Count}
use Rattle.decimal.specs.Decimal.{decimal}
use Rattle.decimal.specs.Lines.{line_end}
use Rattle.sheet.specs.Form.{max_bytes, pair_lines, EightDigits, SignalCount, LinkCount, CountFault}
use Rattle.sheet.specs.Steps.Numbers.{number}
use Rattle.sheet.specs.Steps.Sections.{Lines, pairs, goes_on, judged_count, section, cycle_section}
use Rattle.sheet.specs.Steps.Parsed.{at_end, after_signals, after_cycle, parsed}
use Rattle.sheet.proofs.Backwards.{past_sheet, past_test}
use Rattle.sheet.proofs.Decimals.{line_read, Wrote, number_wrote}
use Rattle.sheet.proofs.LineForms.{pairs_read, section_read, cycle_read, cycle_wrote, SectionWrote, section_wrote}

-- ---- a wrong count is answered with code 2

-- a number outside a range
abbrev Outside : ℕ → ℕ → ℕ → Type 0
Outside least most n = (n < least) ⊎ (most < n)

-- a section whose count's line has such a number
miscounted_read : (least most n : ℕ) (rest : List ℕ) → Outside least most n → EightDigits n → section least most (decimal n ++ line_end ∷ rest) ≡ Err Count
unfolding section judged_count
miscounted_read least most n rest o s = rw (line_read n rest s) (ap (goes_on (λ (t : ℕ × List ℕ). ok_or (pairs t.0 t.1) Sheet)) (⊎_elim few many o))
  where
    few : n < least → cond {A = Result (ℕ × List ℕ) Code} (within least most n) (Ok (n, rest)) (Err Count) ≡ Err Count
    few h = rw (lt-leb least n h) refl

    many : most < n → cond {A = Result (ℕ × List ℕ) Code} (within least most n) (Ok (n, rest)) (Err Count) ≡ Err Count
    many h = by_test (leb least n)
      where
        by_test : (b : Bool) → cond {A = Result (ℕ × List ℕ) Code} (cond b (leb n most) false) (Ok (n, rest)) (Err Count) ≡ Err Count
        by_test true = rw (lt-leb n most h) refl
        by_test false = refl

-- after the first section reading goes on with the signals
from_cycle : (bytes : List ℕ) (cycle : ℕ) (rest : List ℕ) → length bytes ≤ max_bytes → EightDigits cycle →
    bytes ≡ decimal 1 ++ line_end ∷ (decimal cycle ++ line_end ∷ rest) → parsed bytes ≡ after_cycle cycle rest
unfolding parsed
from_cycle bytes cycle rest short s e = rw (le-leb (length bytes) max_bytes short, e, cycle_read cycle rest s) refl

signals-refused : (bytes : List ℕ) → length bytes ≤ max_bytes → SignalCount bytes → parsed bytes ≡ Err Count
unfolding after_cycle
signals-refused bytes short f =
    from_cycle bytes f.cycle (decimal f.count ++ line_end ∷ f.rest) short f.short_cycle (f.form ∙ simp append_assoc)
    ∙ rw (miscounted_read min_signals max_signals f.count f.rest f.wrong f.short_count) refl

other_is_outside : (n k : ℕ) → (n ≡ k → ⊥) → Outside k k n
other_is_outside n k other = go (dec_lt n k)
  where
    go : Dec (n < k) → Outside k k n
    go (yes l) = inl l
    go (no l) = inr (omega (arith, other))

links_refused : (bytes : List ℕ) → length bytes ≤ max_bytes → LinkCount bytes → parsed bytes ≡ Err Count
unfolding after_cycle after_signals
links_refused bytes short f =
    let links : List ℕ = decimal f.count ++ line_end ∷ f.rest in
    let signals : List ℕ = pair_lines f.distances f.reds ++ links in
    let n : ℕ = length f.reds in
    let rows : section min_signals max_signals (decimal n ++ line_end ∷ signals) ≡ Ok (f.distances, f.reds, links) =
    section_read min_signals max_signals n signals f.some f.few (omega (arith, f.few))
    ∙ ap (λ (k : ℕ). ok_or (pairs k signals) Sheet) (sym f.even)
    ∙ ap (λ (o : Option Lines). ok_or o Sheet) (pairs_read f.distances f.reds links (sym f.even) f.short_distances f.short_reds) in
    from_cycle bytes f.cycle (decimal n ++ line_end ∷ signals) short f.short_cycle (f.form ∙ simp append_assoc)
    ∙ rw (rows, miscounted_read (n - 1) (n - 1) f.count f.rest (other_is_outside f.count (n - 1) f.wrong) f.short_count) refl

-- a sheet with a wrong count gets code 2
pub miscount_is_refused : (bytes : List ℕ) → CountFault bytes → parsed bytes ≡ Err Count
miscount_is_refused bytes f = ⊎_elim (signals-refused bytes f.fits) (links_refused bytes f.fits) f.miscount

-- ---- code 2 comes from a wrong count

pub refusals_differ : {A : Type 0} → ◌≡◌ {A = Result A Code} (Err Sheet) (Err Count) → ⊥
refusals_differ e = cc

-- a step that does not answer code 2 itself passes it on
passed_on : {A B : Type 0} (next : A → Result B Code) (r : Result A Code) → ((x : A) → next x ≡ Err Count → ⊥) → goes_on next r ≡ Err Count → r ≡ Err Count
passed_on next (Ok x) other e = absurd (other x e)
passed_on next (Err c) other e = let same : c ≡ Count = cc in ap Err same

-- what cannot be read is no wrong count
not_count : {A : Type 0} (o : Option A) → ok_or o Sheet ≡ Err Count → ⊥
not_count None e = cc
not_count (Some x) e = cc

outside : (least most n : ℕ) → within least most n ≡ false → Outside least most n
outside least most n e = go (dec_lt n least)
  where
    go : Dec (n < least) → Outside least most n
    go (yes l) = inl l
    go (no l) = by_most (dec_lt most n)
      where
        by_most : Dec (most < n) → Outside least most n
        by_most (yes h) = inr h
        by_most (no h) =
            let t : within least most n ≡ true = rw (le-leb least n (omega arith), le-leb n most (omega arith)) refl in
            cc (t, e)

-- a section that ends in code 2 starts with a whole line that has a number outside its range
record Miscounted (least most : ℕ) (bytes : List ℕ) : Type 0 where
  count : ℕ
  rest : List ℕ
  form : bytes ≡ decimal count ++ line_end ∷ rest
  short : EightDigits count
  wrong : Outside least most count

section_miscounted : (least most : ℕ) (bytes : List ℕ) → section least most bytes ≡ Err Count → Miscounted least most bytes
unfolding section judged_count
section_miscounted least most bytes e =
    let judge : ℕ × List ℕ → Result (ℕ × List ℕ) Code = λ t. cond (within least most t.0) (Ok t) (Err Count) in
    let c = passed_on (λ (t : ℕ × List ℕ). ok_or (pairs t.0 t.1) Sheet) (judged_count least most bytes) (λ t q. not_count (pairs t.0 t.1) q) e in
    let p = past_sheet judge (number line_end bytes) (Err Count) refusals_differ c in
    let w : Wrote bytes line_end p.0.0 p.0.1 = number_wrote line_end p.0.0 p.0.1 bytes p.1 in
    record { count = p.0.0; rest = p.0.1; form = w.form; short = w.short; wrong = by_test p.0 (within least most p.0.0) refl p.2 }
  where
    by_test : (t : ℕ × List ℕ) (b : Bool) → within least most t.0 ≡ b → cond b (Ok t) (Err Count) ≡ Err Count → Outside least most t.0
    by_test t true e q = cc
    by_test t false e q = outside least most t.0 e

module _ (bytes : List ℕ) (cycle : ℕ) (s : EightDigits cycle) where
  links_miscounted : (distances reds after later : List ℕ) → bytes ≡ decimal 1 ++ line_end ∷ (decimal cycle ++ line_end ∷ after) →
      SectionWrote min_signals max_signals after (distances, reds, later) →
      Miscounted (length reds - 1) (length reds - 1) later → LinkCount bytes
  links_miscounted distances reds after later e w k =
      record {
        cycle = cycle;
        distances = distances;
        reds = reds;
        count = k.count;
        rest = k.rest;
        some = omega (arith, w.counted.even, w.counted.low);
        few = omega (arith, w.counted.even, w.counted.high);
        even = sym w.counted.even;
        short_cycle = s;
        short_distances = w.lefts;
        short_reds = w.rights;
        short_count = k.short;
        wrong = λ e. ⊎_elim (λ h. omega arith) (λ h. omega arith) k.wrong;
        form =
            e
            ∙ ap (λ (b : List ℕ). decimal 1 ++ line_end ∷ (decimal cycle ++ line_end ∷ b))
            (w.form
            ∙ ap (λ (n : ℕ). decimal n ++ line_end ∷ (pair_lines distances reds ++ later)) (sym w.counted.even)
            ∙ ap (λ (b : List ℕ). decimal (length reds) ++ line_end ∷ (pair_lines distances reds ++ b)) k.form)
            ∙ simp append_assoc;
      }

  signals_miscounted : (after : List ℕ) → bytes ≡ decimal 1 ++ line_end ∷ (decimal cycle ++ line_end ∷ after) →
      Miscounted min_signals max_signals after → SignalCount bytes
  signals_miscounted after e k =
      record {
        cycle = cycle;
        count = k.count;
        rest = k.rest;
        short_cycle = s;
        short_count = k.short;
        wrong = k.wrong;
        form = e ∙ ap (λ (b : List ℕ). decimal 1 ++ line_end ∷ (decimal cycle ++ line_end ∷ b)) k.form ∙ simp append_assoc;
      }

end_counts : (l : Lists) (bytes : List ℕ) → at_end l bytes ≡ Err Count → ⊥
end_counts l [] e = cc
end_counts l (b ∷ bytes) e = refusals_differ e

-- what the sections after the cycle tell of a code 2
after_cycle_lem : (bytes : List ℕ) (cycle : ℕ) (after : List ℕ) → EightDigits cycle → bytes ≡ decimal 1 ++ line_end ∷ (decimal cycle ++ line_end ∷ after) →
    after_cycle cycle after ≡ Err Count → SignalCount bytes ⊎ LinkCount bytes
unfolding after_cycle after_signals
after_cycle_lem bytes cycle after s e q = by_signals (section min_signals max_signals after) refl q
  where
    links : (t : Lines) → section min_signals max_signals after ≡ Ok t → after_signals cycle t.0 t.1 t.2 ≡ Err Count → LinkCount bytes
    links t rows q =
        let n : ℕ = length t.1 - 1 in
        let wrong = passed_on (λ (u : Lines). at_end (typed cycle t.1 t.0 u.0 u.1) u.2) (section n n t.2) (λ u k. end_counts _ u.2 k) q in
        links_miscounted bytes cycle s t.0 t.1 after t.2 e (section_wrote min_signals max_signals after t rows) (section_miscounted n n t.2 wrong)

    by_signals : (r : Result Lines Code) → section min_signals max_signals after ≡ r →
        goes_on (λ (t : Lines). after_signals cycle t.0 t.1 t.2) r ≡ Err Count → SignalCount bytes ⊎ LinkCount bytes
    by_signals (Ok t) is q = inr (links t is q)
    by_signals (Err c) is q =
        let same : c ≡ Count = cc in
        inl (signals_miscounted bytes cycle s after e (section_miscounted min_signals max_signals after (is ∙ ap Err same)))

-- a sheet that gets code 2 has a wrong count
pub refused_is_miscount : (bytes : List ℕ) → parsed bytes ≡ Err Count → CountFault bytes
unfolding parsed
refused_is_miscount bytes e =
    let after : ℕ × List ℕ → Result Lists Code = λ (cycle, rest). after_cycle cycle rest in
    let t = past_test (goes_on after (ok_or (cycle_section bytes) Sheet)) (Err Sheet) (Err Count) refusals_differ (leb (length bytes) max_bytes) e in
    let c = past_sheet after (cycle_section bytes) (Err Count) refusals_differ t.1 in
    let w = cycle_wrote bytes c.0.0 c.0.1 c.1 in
    record { fits = leb-true (length bytes) max_bytes t.0; miscount = after_cycle_lem bytes c.0.0 c.0.1 w.1 w.0 c.2 }
