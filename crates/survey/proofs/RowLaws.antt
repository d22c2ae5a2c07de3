-- Laws of rows: what the running distance at a position tells, and that a row is bad just where one of its three readings is outside the rules. Assumes nothing.
use Prim.Native.Nat.{ℕ, suc, ◌+◌, ◌≤◌, ◌<◌}
use mathlib.Core.Path.{◌≡◌, refl, sym, ap, ap₂, ◌∙◌}
use mathlib.Core.Bool.{Bool, true, false}
use native.Mathlib.Omega.{arith}
use native.Mathlib.Numerals.{add-one}
use lib.Dec.{ltb}
use borrow.Author.Tests.{le-ltb, ne_eqb}
use Rattle.std.proofs.lemmas.Bool.Decides.{nat_tests}
use Rattle.std.specs.Prelude.{Option, Some, None, option_and_then, Ok, Err}
use Rattle.circle.specs.Over.{◌or◌}
use Rattle.circle.proofs.Numbers.{first_at, first_nowhere}
use Rattle.street.specs.Checks.{refuse, fault_at}
use Rattle.street.specs.declared.Code.TheVariants.{Survey}
use Rattle.street.specs.declared.Refusal.{Refusal}
use Rattle.street.specs.Verdicts.{Verdict}
use Rattle.eighths.specs.Readings.{eighths_of}
use Rattle.eighths.proofs.Meaning.{eighths_small}
use Rattle.survey.specs.declared.Judged.{Judged}
use Rattle.survey.specs.declared.Position.{Position}
use Rattle.survey.specs.declared.Position.TheVariants.{Chainage, Gap}
use Rattle.survey.specs.declared.Row.{Row}
use Rattle.survey.specs.Rows.{counted, outside, further, running, bad_position, first_driven, bad_row, row_check}
use Rattle.survey.specs.Steps.{max_eighths, gap_end, placed_at, together, judged_as, standing}

-- a position that is bad at its own running distance is off
abbrev pub off : ℕ → Position → Bool
off before p = bad_position (further before p) p

at_chainage : (e : Option ℕ) → ((k : ℕ) → e ≡ Some k → k ≤ max_eighths) → (outside e or ltb max_eighths (counted e)) ≡ outside e
at_chainage (Some k) small = le-ltb max_eighths k (small k refl)
at_chainage None small = refl

at_gap : (before : ℕ) (e : Option ℕ) → (outside e or ltb max_eighths (before + counted e)) ≡ outside (option_and_then (gap_end before) e)
at_gap before None = refl
at_gap before (Some k) = grind (arith, nat_tests)

-- a position is off just where it is not placed
off_is : (before : ℕ) (p : Position) → off before p ≡ outside (placed_at before p)
unfolding placed_at
off_is before (Chainage x) = at_chainage (eighths_of x) (eighths_small x)
off_is before (Gap x) = at_gap before (eighths_of x)

-- and else it stands at its running distance
counted_gap : (before : ℕ) (e : Option ℕ) (d : ℕ) → option_and_then (gap_end before) e ≡ Some d → d ≡ before + counted e
counted_gap before None d e = cc
counted_gap before (Some k) d e = grind (arith, nat_tests)

stands : (before : ℕ) (p : Position) (d : ℕ) → placed_at before p ≡ Some d → d ≡ further before p
unfolding placed_at
stands before (Chainage x) d e = sym (ap counted e)
stands before (Gap x) d e = counted_gap before (eighths_of x) d e

-- a row whose readings make it bad is bad, whatever else is said of it
bad_together : (t s : Bool) (p out back : Option ℕ) → t ≡ outside p → together p out back ≡ None → (t or outside out or outside back or s) ≡ true
bad_together t s None out back e g = ap (λ u. u or outside out or outside back or s) e
bad_together t s (Some d) None back e g = ap (λ u. u or true or outside back or s) e
bad_together t s (Some d) (Some o) None e g = ap (λ u. u or false or true or s) e
bad_together t s (Some d) (Some o) (Some i) e g = cc

-- and one whose readings make it good is good, but for what else is said of it
record Readings (t : Bool) (p out back : Option ℕ) (m : Judged) : Type 0 where
  pub inside : (s : Bool) → (t or outside out or outside back or s) ≡ s
  pub distance : p ≡ Some m.distance
  pub outbound : counted out ≡ m.outbound
  pub inbound : counted back ≡ m.inbound

good_together : (t : Bool) (p out back : Option ℕ) (m : Judged) → t ≡ outside p → together p out back ≡ Some m → Readings t p out back m
good_together t None out back m e g = cc
good_together t (Some a) None back m e g = cc
good_together t (Some a) (Some b) None m e g = cc
good_together t (Some a) (Some b) (Some k) m e g =
    record { inside = λ s. ap (λ u. u or false or false or s) e; distance = cc; outbound = cc; inbound = cc }

-- of a good row both speeds are zero where they must be, and a bad one has another fault or a speed
record Standing (j : Option Judged) (m : Judged) : Type 0 where
  pub good : j ≡ Some m
  pub still : (ltb 0 m.outbound or ltb 0 m.inbound) ≡ false

good_standing : (j : Option Judged) (m : Judged) → standing j ≡ Some m → Standing j m
good_standing None m e = cc
good_standing (Some r) m e = record { good = grind (arith, nat_tests); still = grind (arith, nat_tests) }

bad_standing : (t : Bool) (p out back : Option ℕ) → t ≡ outside p → standing (together p out back) ≡ None → (t or outside out or outside back or ltb 0 (counted out) or ltb 0 (counted back)) ≡ true
bad_standing t None out back e g = bad_together t (ltb 0 (counted out) or ltb 0 (counted back)) None out back e refl
bad_standing t (Some d) None back e g = bad_together t (false or ltb 0 (counted back)) (Some d) None back e refl
bad_standing t (Some d) (Some o) None e g = bad_together t (ltb 0 o or false) (Some d) (Some o) None e refl
bad_standing t (Some d) (Some o) (Some i) e g =
    grind (arith, nat_tests)

-- what a good row tells of itself, at an index: it is not bad, its running distance, and its speeds
pub record GoodRow (row : ℕ → Row) (j : ℕ) (m : Judged) : Type 0 where
  pub good : bad_row row j ≡ false
  pub is : m.distance ≡ running row j
  pub out : counted (eighths_of (row j).outbound) ≡ m.outbound
  pub back : counted (eighths_of (row j).inbound) ≡ m.inbound

-- a row that is read at its index, at which nothing else is said against it
read_well : (row : ℕ → Row) (j before : ℕ) (m : Judged) → further before (row j).position ≡ running row j → judged_as before (row j) ≡ Some m → first_driven j (row j) ≡ false → GoodRow row j m
unfolding judged_as
read_well row j before m at e still =
    let r = row j in
    let t = good_together (off before r.position) _ _ _ m (off_is before r.position) e in
    record {
      good = ap (λ (d : ℕ). bad_position d r.position or outside (eighths_of r.outbound) or outside (eighths_of r.inbound) or first_driven j r) (sym at) ∙ t.inside _ ∙ still;
      is = stands before r.position m.distance t.distance ∙ at;
      out = t.outbound;
      back = t.inbound;
    }

module _ (row : ℕ → Row) where
  pub first_good : (m : Judged) → standing (judged_as 0 (row 0)) ≡ Some m → GoodRow row 0 m
  unfolding judged_as running
  first_good m e =
      let r = row 0 in
      let s = good_standing _ m e in
      let t = good_together (off 0 r.position) _ _ _ m (off_is 0 r.position) s.good in
      read_well row 0 0 m refl s.good (ap₂ (λ (x y : ℕ). ltb 0 x or ltb 0 y) t.outbound t.inbound ∙ s.still)

  pub first_bad : standing (judged_as 0 (row 0)) ≡ None → bad_row row 0 ≡ true
  unfolding judged_as running
  first_bad e =
      let r = row 0 in
      bad_standing (off 0 r.position) (placed_at 0 r.position) (eighths_of r.outbound) (eighths_of r.inbound) (off_is 0 r.position) e

  next_good : (k : ℕ) (m : Judged) → judged_as (running row k) (row (suc k)) ≡ Some m → GoodRow row (suc k) m
  unfolding running
  next_good k m e = read_well row (suc k) (running row k) m refl e (simp (ne_eqb (suc k) 0 (λ z. omega arith)))

  next_bad : (k : ℕ) → judged_as (running row k) (row (suc k)) ≡ None → bad_row row (suc k) ≡ true
  unfolding judged_as running
  next_bad k e =
      let r = row (suc k) in
      bad_together (off (running row k) r.position) (first_driven (suc k) r) (placed_at (running row k) r.position) (eighths_of r.outbound) (eighths_of r.inbound) (off_is (running row k) r.position) e

  -- the same as the code counts
  pub following_good : (k before : ℕ) (m : Judged) → before ≡ running row k → judged_as before (row (k + 1)) ≡ Some m → GoodRow row (k + 1) m
  following_good k before m e g = rw (add-one k) (next_good k m (ap₂ (λ (b j : ℕ). judged_as b (row j)) (sym e) (sym (add-one k)) ∙ g))

  pub following_bad : (k before : ℕ) → before ≡ running row k → judged_as before (row (k + 1)) ≡ None → bad_row row (k + 1) ≡ true
  following_bad k before e g = rw (add-one k) (next_bad k (ap₂ (λ (b j : ℕ). judged_as b (row j)) (sym e) (sym (add-one k)) ∙ g))

-- the first bad row is the refusal's place, and where none is bad the check passes
pub fault_at_lem : (row : ℕ → Row) (n i : ℕ) → i < n → ((k : ℕ) → k < i → bad_row row k ≡ false) → bad_row row i ≡ true → refuse Survey (i + 1) ≡ row_check n row
unfolding row_check
fault_at_lem row n i l none here = sym (ap (fault_at Survey) (first_at n (bad_row row) i l none here))

pub fault_nowhere : (row : ℕ → Row) (n : ℕ) → ((k : ℕ) → k < n → bad_row row k ≡ false) → Ok tt ≡ row_check n row
unfolding row_check
fault_nowhere row n none = sym (ap (fault_at Survey) (first_nowhere n (bad_row row) none))

-- and no verdict is both
pub not_both : {v : Verdict} (f : Refusal) → v ≡ Err f → v ≡ Ok tt → ⊥
not_both f e p = cc
