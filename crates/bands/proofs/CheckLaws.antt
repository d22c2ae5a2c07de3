-- The order of a measure's checks. They find the same first fault whether the offsets' length is tested in its place or before all, since either fault of the count is one
-- refusal; and with as many offsets as reds they are the checks of a plan that has room, and the offsets' own after them. Where that passed, every offset is on the cycle.
-- Assumes nothing.
use Rattle.std.specs.Prelude.{Ok}
use Prim.Native.Nat.{ℕ, ◌-◌, ◌*◌}
use mathlib.Core.Path.{◌≡◌, refl, ap, ◌∙◌}
use mathlib.Core.Bool.{Bool, true, false}
use mathlib.Core.List.{List, [], ◌∷◌, ◌++◌}
use native.Mathlib.Omega.{arith}
use lib.ListN.{length, get_or}
use lib.Dec.{eqb}
use borrow.Author.Tests.{eq-eqb, ne_eqb, leb-false}
use Rattle.circle.specs.Method.{Timed}
use Rattle.circle.specs.Over.{first_below, ◌and◌}
use Rattle.circle.proofs.Numbers.{first-none}
use Rattle.road.specs.Limits.{min_signals, max_signals}
use Rattle.street.specs.Lists.{Lists, signals}
use Rattle.street.specs.Checks.{within, refuse, unless, or_next, first_fault, count_check, cycle_check, counts, number_checks, plan_checks}
use Rattle.street.specs.declared.Code.TheVariants.{Count, Offset}
use Rattle.street.specs.Verdicts.{Verdict}
use Rattle.street.proofs.Passed.{no_fault, street_then}
use Rattle.bands.specs.Steps.{Placed}
use Rattle.bands.specs.Measure.{size_check, bad_offset, offset_check, measure_checks}

-- a count's fault is one refusal, whichever list it is of
count_faults : (t : Bool) (v : Verdict) → or_next (unless t Count) (or_next (refuse Count 0) v) ≡ refuse Count 0
count_faults true v = refl
count_faults false v = refl

count_first : (n d o i : ℕ) (v : Verdict) → or_next (count_check n d o i) (or_next (refuse Count 0) v) ≡ refuse Count 0
unfolding count_check
count_first n d o i v = count_faults (within min_signals max_signals n and eqb d n and eqb o (n - 1) and eqb i (n - 1)) v

module _ (l : Lists) (offsets : List ℕ) where
  -- all that is judged after the two counts
  ranges : Verdict
  ranges = first_fault (cycle_check l.cycle ∷ number_checks l ++ offset_check l.cycle offsets ∷ [])

  pub checks_short : (length offsets ≡ signals l → ⊥) → measure_checks l offsets ≡ refuse Count 0
  unfolding measure_checks size_check ranges
  checks_short n =
      ap (λ t. or_next (counts l) (or_next (unless t Count) ranges)) (ne_eqb (length offsets) (signals l) n)
      ∙ count_first (signals l) (length l.distances) (length l.outbound) (length l.inbound) ranges

  pub checks_full : length offsets ≡ signals l → measure_checks l offsets ≡ or_next (plan_checks l (signals l)) (offset_check l.cycle offsets)
  unfolding measure_checks size_check ranges
  checks_full e =
      ap (λ t. or_next (counts l) (or_next (unless t Count) ranges)) (eq-eqb (length offsets) (signals l) e)
      ∙ street_then l (offset_check l.cycle offsets)

-- the offsets' check passed: each is on the cycle
pub placed_on : (s : Timed) (offsets : List ℕ) → length offsets ≡ s.signals → offset_check s.cycle offsets ≡ (Ok tt) → Placed s offsets
unfolding offset_check
placed_on s offsets count e =
    record {
      count = count;
      each =
          λ j l.
          leb-false (2 * s.cycle) (get_or offsets j 0)
          (first-none (length offsets) (bad_offset s.cycle offsets) (no_fault Offset (first_below (length offsets) (bad_offset s.cycle offsets)) e) j (omega arith));
    }
