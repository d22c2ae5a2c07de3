-- A sheet's arrays give back the lists that were read, and each is whole: a column stands in front, and zeros fill the array. And what was read has from 1 to 32 signals, so that
-- its lists can be handed on. Of each array as many entries are lent as it is said to have. Assumes nothing.
use Prim.Native.Nat.{ℕ, ◌-◌, ◌≤◌}
use mathlib.Core.Path.{◌≡◌, refl, sym, subst}
use mathlib.Core.List.{List, []}
use native.Mathlib.Omega.{arith}
use lib.ListN.{length, take, drop, replicate, length-append, length-drop, length-replicate}
use lib.Seq.{take_at, length-take-le}
use Rattle.std.specs.Prelude.{Ok}
use Rattle.road.specs.Limits.{max_signals}
use Rattle.street.specs.Lists.{Lists, signals}
use Rattle.street.proofs.CheckLaws.{Counted}
use Rattle.sheet.specs.Form.{Writable}
use Rattle.sheet.specs.Reading.{in_array, sheet_of, lists_of, no_sheet, sheet_beside, Reading, Reads}
use Rattle.sheet.specs.Steps.Held.{Held, Whole}
use Rattle.sheet.specs.declared.Sheet.{Sheet}
use Rattle.sheet.proofs.ByForm.{either_way}

-- a column in its array, and how long the array is
take_in_array : (n : ℕ) (xs : List ℕ) → length xs ≡ n → take n (in_array xs) ≡ xs
take_in_array n xs e = take_at xs (drop (length xs) (replicate max_signals 0)) n e

zeros : List ℕ
zeros = replicate max_signals 0

length_in_array : (xs : List ℕ) → length xs ≤ max_signals → length (in_array xs) ≡ max_signals
unfolding zeros
length_in_array xs l =
    omega (arith, length-append xs (drop (length xs) zeros), length-drop (length xs) zeros, length-replicate {A = ℕ} max_signals 0)

-- lists of a street's lengths, each column in its array
module _ (l : Lists) (ok : Counted (signals l) (length l.distances) (length l.outbound) (length l.inbound)) where
  pub lists_whole : lists_of (sheet_of l) ≡ l
  lists_whole =
      λ i.
      record {
        cycle = l.cycle;
        reds = take_in_array (signals l) l.reds refl i;
        distances = take_in_array (signals l) l.distances ok.distances i;
        outbound = take_in_array (signals l - 1) l.outbound ok.outbound i;
        inbound = take_in_array (signals l - 1) l.inbound ok.inbound i;
      }

  pub lists_held : Held (sheet_of l)
  lists_held =
      record { some = ok.least; few = ok.most }

  pub arrays_whole : Whole (sheet_of l)
  arrays_whole =
      record {
        reds = length_in_array l.reds ok.most;
        distances = length_in_array l.distances (omega (arith, ok.most, ok.distances));
        outbound = length_in_array l.outbound (omega (arith, ok.most, ok.outbound));
        inbound = length_in_array l.inbound (omega (arith, ok.most, ok.inbound));
      }

-- the streets that a sheet can hold are such lists
writable_counted : (l : Lists) → Writable l → Counted (signals l) (length l.distances) (length l.outbound) (length l.inbound)
writable_counted l ok =
    record {
      least = ok.some;
      most = ok.few;
      distances = ok.distances;
      outbound = ok.outbound;
      inbound = ok.inbound;
    }

-- the lists that were read
pub lists_back : (l : Lists) → Writable l → lists_of (sheet_of l) ≡ l
lists_back l ok = lists_whole l (writable_counted l ok)

-- what a sheet that was read tells
pub reading_held : {bytes : List ℕ} {s : Sheet} → Reads bytes (Ok s) → Held s
reading_held {bytes} {s} read =
    either_way (λ l w e. let same : sheet_of l ≡ s = cc in rw (← same) (lists_held l (writable_counted l w))) (λ c e. cc) read

-- a sheet of zeros is whole
no_sheet_whole : Whole no_sheet
no_sheet_whole =
    let all = length_in_array [] (omega arith) in
    record { reds = all; distances = all; outbound = all; inbound = all }

-- and so is the sheet of any reading, beside a refusal too
pub reading_whole : {bytes : List ℕ} {r : Reading} → Reads bytes r → Whole (sheet_beside r)
reading_whole {bytes} {r} read =
    either_way
    (λ l w e. subst (λ x. Whole (sheet_beside x)) (sym e) (arrays_whole l (writable_counted l w)))
    (λ c e. subst (λ x. Whole (sheet_beside x)) (sym e) no_sheet_whole)
    read

-- the parts of its arrays that are lent to a call
module _ (s : Sheet) (h : Held s) (w : Whole s) where
  pub reds_part : s.signals ≡ length (take s.signals s.reds)
  reds_part = sym (length-take-le s.signals s.reds (omega (arith, h.few, w.reds)))

  pub distances_part : s.signals ≡ length (take s.signals s.distances)
  distances_part = sym (length-take-le s.signals s.distances (omega (arith, h.few, w.distances)))

  pub outbound_part : s.signals - 1 ≡ length (take (s.signals - 1) s.outbound)
  outbound_part = sym (length-take-le (s.signals - 1) s.outbound (omega (arith, h.few, w.outbound)))

  pub inbound_part : s.signals - 1 ≡ length (take (s.signals - 1) s.inbound)
  inbound_part = sym (length-take-le (s.signals - 1) s.inbound (omega (arith, h.few, w.inbound)))
