-- The reader answers codes 1 and 2 only: a line that cannot be read is code 1, a count that is judged and wrong is code 2, and nothing else refuses.
-- Each step passes on a fault of those two kinds or makes one. Assumes nothing.
use Prim.Native.Nat.{ℕ, ◌-◌}
use mathlib.Core.Bool.{Bool, true, false, cond}
use mathlib.Core.Logic.{◌⊎◌, inl, inr}
use mathlib.Core.Path.{◌≡◌, refl, subst}
use mathlib.Core.List.{List, [], ◌∷◌}
use lib.Dec.{leb}
use lib.ListN.{length}
use Rattle.std.specs.Prelude.{Option, Some, None, Result, Ok, Err, ok_or}
use Rattle.road.specs.Limits.{min_signals, max_signals}
use Rattle.street.specs.Lists.{Lists}
use Rattle.street.specs.Checks.{within}
use Rattle.street.specs.declared.Code.{Code}
use Rattle.street.specs.declared.Code.TheVariants.{Sheet, Count}
use Rattle.decimal.specs.Lines.{line_end}
use Rattle.sheet.specs.Form.{max_bytes}
use Rattle.sheet.specs.Steps.Numbers.{number}
use Rattle.sheet.specs.Steps.Sections.{pairs, goes_on, judged_count, section, cycle_section}
use Rattle.sheet.specs.Steps.Parsed.{parsed, after_cycle, after_signals, at_end}

-- one of the reader's two codes
abbrev pub Own : Code → Type 0
Own c = (c ≡ Sheet) ⊎ (c ≡ Count)

abbrev OwnFault : {A : Type 0} → Result A Code → Type 0
OwnFault (Ok x) = Unit
OwnFault (Err c) = Own c

nothing_own : {A : Type 0} (o : Option A) → OwnFault (ok_or o Sheet)
nothing_own None = inl refl
nothing_own (Some x) = tt

module _ {A B : Type 0} (next : A → Result B Code) (later : (x : A) → OwnFault (next x)) where
  goes_on_own : (r : Result A Code) → OwnFault r → OwnFault (goes_on next r)
  goes_on_own (Ok x) o = later x
  goes_on_own (Err c) o = o

test_own : {A : Type 0} (x y : Result A Code) → OwnFault x → OwnFault y → (t : Bool) → OwnFault (cond t x y)
test_own x y o p true = o
test_own x y o p false = p

counted_own : (least most : ℕ) (bytes : List ℕ) → OwnFault (judged_count least most bytes)
unfolding judged_count
counted_own least most bytes =
    goes_on_own _ (λ t. test_own (Ok t) (Err Count) tt (inr refl) (within least most t.0)) (ok_or (number line_end bytes) Sheet) (nothing_own (number line_end bytes))

section_own : (least most : ℕ) (bytes : List ℕ) → OwnFault (section least most bytes)
unfolding section
section_own least most bytes = goes_on_own _ (λ t. nothing_own (pairs t.0 t.1)) (judged_count least most bytes) (counted_own least most bytes)

end_own : (l : Lists) (bytes : List ℕ) → OwnFault (at_end l bytes)
end_own l [] = tt
end_own l (b ∷ bytes) = inl refl

links_own : (cycle : ℕ) (distances reds bytes : List ℕ) → OwnFault (after_signals cycle distances reds bytes)
unfolding after_signals
links_own cycle distances reds bytes =
    let n : ℕ = length reds - 1 in
    goes_on_own _ (λ t. end_own _ t.2) (section n n bytes) (section_own n n bytes)

signals_own : (cycle : ℕ) (bytes : List ℕ) → OwnFault (after_cycle cycle bytes)
unfolding after_cycle
signals_own cycle bytes =
    goes_on_own _ (λ t. links_own cycle t.0 t.1 t.2) (section min_signals max_signals bytes) (section_own min_signals max_signals bytes)

own : (bytes : List ℕ) → OwnFault (parsed bytes)
unfolding parsed
own bytes =
    test_own _ (Err Sheet)
    (goes_on_own _ (λ t. signals_own t.0 t.1) (ok_or (cycle_section bytes) Sheet) (nothing_own (cycle_section bytes)))
    (inl refl)
    (leb (length bytes) max_bytes)

-- the reader's refusals have code 1 or 2
pub own_codes : (bytes : List ℕ) (c : Code) → parsed bytes ≡ Err c → (c ≡ Sheet) ⊎ (c ≡ Count)
own_codes bytes c e = subst OwnFault e (own bytes)
