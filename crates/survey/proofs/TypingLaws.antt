-- Laws of what rows are read as: the order of their checks, the arrays that hold their numbers, that all goes by the rows there are, and the lists that a reading gives back.
-- Assumes nothing.
use Prim.Native.Nat.{ℕ, zero, suc, ◌+◌, ◌-◌, ◌≤◌, ◌<◌}
use mathlib.Core.Path.{◌≡◌, refl, sym, ap, ap₂, ◌∙◌, subst}
use mathlib.Core.Bool.{false, true}
use mathlib.Core.List.{List, [], ◌∷◌, ◌++◌}
use native.Mathlib.Omega.{arith}
use lib.ListN.{length, drop, replicate}
use lib.Dec.{eqb}
use lib.Ieee.{Float}
use borrow.Author.Tests.{eqb-true}
use Rattle.std.specs.Prelude.{Ok, Err}
use Rattle.circle.specs.Over.{list_below}
use Rattle.circle.proofs.Numbers.{cond_left, cond_right, first_ext, list_ext, length_list_below}
use Rattle.road.specs.Limits.{min_signals, max_signals}
use Rattle.road.specs.Steps.{padded}
use Rattle.street.specs.Lists.{Lists, signals, typed}
use Rattle.street.specs.Checks.{fault_at, or_next, first_fault}
use Rattle.street.specs.declared.Code.TheVariants.{Count, Survey}
use Rattle.street.specs.declared.Refusal.{Refusal}
use Rattle.street.specs.Verdicts.{Verdict, answered}
use Rattle.street.proofs.CheckLaws.{Counted, Within, passes, within_range, last_check}
use Rattle.street.proofs.Sound.{answered_ok}
use Rattle.sheet.specs.Form.{Writable, text}
use Rattle.sheet.specs.Reading.{Reading, in_array, sheet_of, lists_of, Reads}
use Rattle.sheet.specs.Steps.Held.{Held}
use Rattle.sheet.specs.declared.Sheet.{Sheet}
use Rattle.sheet.proofs.Held.{lists_whole, lists_held}
use Rattle.eighths.specs.Readings.{eighths_of}
use Rattle.survey.specs.declared.Row.{Row}
use Rattle.survey.specs.Rows.{counted, further, running, bad_at, bad_row, row_count_check, row_check}
use Rattle.survey.specs.Typing.{thousandths, typed_rows, survey_checks, survey_reading, in_lists, lengths_check, lists_reading}
use Rattle.survey.specs.Steps.{rows_reading}
use Rattle.survey.proofs.RowLaws.{fault_at_lem, fault_nowhere}
use Rattle.survey.proofs.Filled.{SoFar}

-- ---- the order of the checks

first_refuses : (v w : Verdict) (f : Refusal) → v ≡ Err f → first_fault (v ∷ w ∷ []) ≡ Err f
first_refuses v w f e = ap (λ x. or_next x (or_next w (Ok tt))) e

first_passes : (v w : Verdict) → v ≡ Ok tt → first_fault (v ∷ w ∷ []) ≡ w
first_passes v w e = ap (λ x. or_next x (or_next w (Ok tt))) e ∙ last_check w

-- how many rows there are where their count passed
pub row_range : (n : ℕ) → row_count_check n ≡ Ok tt → Within min_signals max_signals n
unfolding row_count_check
row_range n e = within_range min_signals max_signals n (passes _ Count e)

module _ (cycle n : ℕ) (row : ℕ → Row) where
  -- a count that is refused, and one that passes
  pub miscounted : (f : Refusal) → row_count_check n ≡ Err f → Err f ≡ survey_reading cycle n row
  unfolding survey_checks
  miscounted f e = sym (ap (λ v. answered v (sheet_of (typed_rows cycle n row))) (first_refuses (row_count_check n) (row_check n row) f e))

  pub well_counted : row_count_check n ≡ Ok tt → rows_reading cycle n row ≡ survey_reading cycle n row
  unfolding survey_checks
  well_counted e = sym (ap (λ v. answered v (sheet_of (typed_rows cycle n row))) (first_passes (row_count_check n) (row_check n row) e))

-- where all checks passed, so did the count
survey_range : (n : ℕ) (row : ℕ → Row) → survey_checks n row ≡ Ok tt → Within min_signals max_signals n
unfolding survey_checks
survey_range n row e = row_range n (go (row_count_check n) e)
  where
    go : (v : Verdict) → first_fault (v ∷ row_check n row ∷ []) ≡ Ok tt → v ≡ Ok tt
    go (Ok tt) e = refl
    go (Err f) e = e

-- ---- what rows come to, one after the other

-- the first bad one refuses them
pub row_refused : (cycle n : ℕ) (row : ℕ → Row) (i : ℕ) → i < n → ((k : ℕ) → k < i → bad_row row k ≡ false) → bad_row row i ≡ true → Err (record { code = Survey; place = i + 1 }) ≡ rows_reading cycle n row
row_refused cycle n row i l none here =
    ap (λ v. answered v (sheet_of (typed_rows cycle n row))) (fault_at_lem row n i l none here)

-- a column of so many entries in its array
in_array_lem : (n : ℕ) (f : ℕ → ℕ) → padded n f ≡ in_array (list_below n f)
in_array_lem n f = ap (λ (k : ℕ). list_below n f ++ drop k (replicate max_signals 0)) (sym (length_list_below n f))

column : (n m : ℕ) (f : ℕ → ℕ) (array : List ℕ) → array ≡ padded n f → n ≡ m → array ≡ in_array (list_below m f)
column n m f array e same = e ∙ ap (λ (k : ℕ). padded k f) same ∙ in_array_lem m f

-- and where none is bad, their numbers are in the arrays
pub all_typed : (cycle n link before : ℕ) (row : ℕ → Row) (reds distances outbound inbound : List ℕ) → SoFar row link before reds distances outbound inbound → link + 1 ≡ n → ◌≡◌ {A = Reading} (Ok (record { signals = n; cycle = cycle; reds = reds; distances = distances; outbound = outbound; inbound = inbound })) (rows_reading cycle n row)
all_typed cycle n link before row reds distances outbound inbound h all =
    let links : link ≡ n - 1 = omega arith in
    let sheet : ◌≡◌ {A = Sheet} (record { signals = n; cycle = cycle; reds = reds; distances = distances; outbound = outbound; inbound = inbound }) (sheet_of (typed_rows cycle n row)) =
    λ i.
    record {
      signals = sym (length_list_below n (λ j. (row j).red)) i;
      cycle = cycle;
      reds = column (link + 1) n _ reds h.stops all i;
      distances = column (link + 1) n _ distances h.places all i;
      outbound = column link (n - 1) _ outbound h.there links i;
      inbound = column link (n - 1) _ inbound h.home links i;
    } in
    ap Ok sheet ∙ ap (λ v. answered v (sheet_of (typed_rows cycle n row))) (fault_nowhere row n (λ k l. h.good k (omega arith)))

-- ---- the rows there are

module _ (n : ℕ) (row row' : ℕ → Row) (same : (j : ℕ) → j < n → row j ≡ row' j) where
  running_same : (j : ℕ) → j < n → running row j ≡ running row' j
  unfolding running
  running_same zero l = ap (λ r. further 0 r.position) (same 0 l)
  running_same (suc j) l = ap₂ (λ (b : ℕ) (r : Row). further b r.position) (running_same j (omega arith)) (same (suc j) l)

  bad_same : (j : ℕ) → j < n → bad_row row j ≡ bad_row row' j
  bad_same j l = ap₂ (bad_at j) (running_same j l) (same j l)

  checks_same : survey_checks n row ≡ survey_checks n row'
  unfolding survey_checks row_check
  checks_same = ap (λ f. first_fault (row_count_check n ∷ fault_at Survey f ∷ [])) (first_ext n (bad_row row) (bad_row row') bad_same)

  -- a speed of the row behind a link
  behind : (speed : Row → ℕ) → list_below (n - 1) (λ k. speed (row (k + 1))) ≡ list_below (n - 1) (λ k. speed (row' (k + 1)))
  behind speed = list_ext (n - 1) _ _ (λ k l. ap speed (same (k + 1) (omega arith)))

  typed_same : (cycle : ℕ) → typed_rows cycle n row ≡ typed_rows cycle n row'
  typed_same cycle =
      λ i.
      typed cycle
      (list_ext n (λ j. (row j).red) (λ j. (row' j).red) (λ j l. ap (λ r. r.red) (same j l)) i)
      (list_ext n (λ j. thousandths (running row j)) (λ j. thousandths (running row' j)) (λ j l. ap thousandths (running_same j l)) i)
      (behind (λ r. thousandths (counted (eighths_of r.outbound))) i)
      (behind (λ r. thousandths (counted (eighths_of r.inbound))) i)

  pub reading_same : (cycle : ℕ) → survey_reading cycle n row ≡ survey_reading cycle n row'
  reading_same cycle = ap₂ (λ v l. answered v (sheet_of l)) checks_same (typed_same cycle)

-- ---- the lists that a reading gives back

typed-counted : (cycle n : ℕ) (row : ℕ → Row) → min_signals ≤ n → n ≤ max_signals → let l = typed_rows cycle n row in Counted (signals l) (length l.distances) (length l.outbound) (length l.inbound)
typed-counted cycle n row least most =
    let l = typed_rows cycle n row in
    let reds : length l.reds ≡ n = length_list_below n _ in
    let distances : length l.distances ≡ n = length_list_below n _ in
    let outbound : length l.outbound ≡ n - 1 = length_list_below (n - 1) _ in
    let inbound : length l.inbound ≡ n - 1 = length_list_below (n - 1) _ in
    record {
      least = omega arith;
      most = omega arith;
      distances = omega arith;
      outbound = omega arith;
      inbound = omega arith;
    }

-- a reading that is a sheet can be handed on: its arrays have room, and give back the numbers as typed by hand
pub record Passing (n : ℕ) (row : ℕ → Row) (l : Lists) (s : Sheet) : Type 0 where
  pub checks : survey_checks n row ≡ Ok tt
  pub held : Held s
  pub lists : lists_of s ≡ l

pub reading_passed : (cycle n : ℕ) (row : ℕ → Row) (s : Sheet) → survey_reading cycle n row ≡ Ok s → Passing n row (typed_rows cycle n row) s
reading_passed cycle n row s e =
    let l = typed_rows cycle n row in
    let told = answered_ok (survey_checks n row) (sheet_of l) s e in
    let range = survey_range n row told.0 in
    let counted = typed-counted cycle n row range.low range.high in
    record {
      checks = told.0;
      held = subst Held (sym told.1) (lists_held l counted);
      lists = ap lists_of told.1 ∙ lists_whole l counted;
    }

-- typed on a sheet and read, the street gives the reading that the rows give
pub typed_on_a_sheet : (cycle n : ℕ) (row : ℕ → Row) (bytes : List ℕ) (r : Reading) → survey_checks n row ≡ Ok tt → Writable (typed_rows cycle n row) → bytes ≡ text (typed_rows cycle n row) → Reads bytes r → r ≡ survey_reading cycle n row
typed_on_a_sheet cycle n row bytes r passed writable is_text reads =
    reads.of_text (typed_rows cycle n row) writable is_text
    ∙ sym (ap (λ v. answered v (sheet_of (typed_rows cycle n row))) passed)

-- ---- five lists

module _ (cycle : ℕ) (kinds : List ℕ) (positions outbound inbound : List Float) (reds : List ℕ) where
  abbrev lengths_of : Verdict
  lengths_of = lengths_check (length reds) (length kinds) (length positions) (length outbound) (length inbound)

  abbrev row_of : ℕ → Row
  row_of = in_lists kinds positions outbound inbound reds

  abbrev read_by : Verdict → Reading
  read_by v = answered v (sheet_of (typed_rows cycle (length reds) row_of))

  lists_even : lengths_of ≡ Ok tt → survey_reading cycle (length reds) row_of ≡ lists_reading cycle kinds positions outbound inbound reds
  lists_even e = sym (ap read_by (first_passes lengths_of (survey_checks (length reds) row_of) e))

  pub lists_miscounted : (f : Refusal) → lengths_of ≡ Ok tt → row_count_check (length reds) ≡ Err f → Err f ≡ lists_reading cycle kinds positions outbound inbound reds
  lists_miscounted f e g = miscounted cycle (length reds) row_of f g ∙ lists_even e

  pub lists_read : lengths_of ≡ Ok tt → (row : ℕ → Row) → ((j : ℕ) → j < length reds → row j ≡ row_of j) → survey_reading cycle (length reds) row ≡ lists_reading cycle kinds positions outbound inbound reds
  lists_read e row same = reading_same (length reds) row row_of same cycle ∙ lists_even e

  -- the same of rows that are as many as there may be
  pub counted_read : lengths_of ≡ Ok tt → row_count_check (length reds) ≡ Ok tt → (row : ℕ → Row) → ((j : ℕ) → j < length reds → row j ≡ row_of j) → rows_reading cycle (length reds) row ≡ lists_reading cycle kinds positions outbound inbound reds
  counted_read e g row same = well_counted cycle (length reds) row g ∙ lists_read e row same

-- lists of one length
pub record Even (n kinds positions outbound inbound : ℕ) : Type 0 where
  pub kinds_too : kinds ≡ n
  pub positions_too : positions ≡ n
  pub outbound_too : outbound ≡ n
  pub inbound_too : inbound ≡ n

pub even_lists : (n k p o i : ℕ) → lengths_check n k p o i ≡ Ok tt → Even n k p o i
unfolding lengths_check
even_lists n k p o i e =
    let all = passes _ Count e in
    let rest = cond_right (eqb k n) _ all in
    let rest2 = cond_right (eqb p n) _ rest in
    record {
      kinds_too = eqb-true _ _ (cond_left _ _ all);
      positions_too = eqb-true _ _ (cond_left _ _ rest);
      outbound_too = eqb-true _ _ (cond_left _ _ rest2);
      inbound_too = eqb-true _ _ (cond_right (eqb o n) _ rest2);
    }
