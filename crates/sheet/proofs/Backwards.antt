-- What an outcome tells of the step before it: where a step did not end in its own fault, it took what it reads and went on from there.
-- Each law goes by the cases of what was read; the other cases are the fault. Assumes nothing.
use Prim.Native.Nat.{ℕ, suc}
use mathlib.Core.Bool.{Bool, true, false, cond}
use mathlib.Core.Path.{◌≡◌, refl, ap, ap₂, ◌∙◌}
use mathlib.Core.List.{List}
use Rattle.std.specs.Prelude.{Option, Some, None, option_map, option_and_then, Result, Ok, Err, ok_or}
use Rattle.street.specs.declared.Code.{Code}
use Rattle.street.specs.declared.Code.TheVariants.{Sheet}
use Rattle.decimal.specs.Lines.{space, line_end}
use Rattle.sheet.specs.Steps.Numbers.{number}
use Rattle.sheet.specs.Steps.Sections.{Lines, above, pair, pairs, goes_on}

pub past_test : {A : Type 0} (p f a : A) → (f ≡ a → ⊥) → (b : Bool) → cond b p f ≡ a → (b ≡ true) × (p ≡ a)
past_test p f a other true e = (refl, e)
past_test p f a other false e = absurd (other e)

module _ {A B : Type 0} where
  pub past_some : (next : A → Option B) (o : Option A) (b : B) → option_and_then next o ≡ Some b → (a : A) × (o ≡ Some a) × (next a ≡ Some b)
  past_some next None b e = cc
  past_some next (Some a) b e = (a, refl, e)

  pub past_map : (f : A → B) (o : Option A) (b : B) → option_map f o ≡ Some b → (a : A) × (o ≡ Some a) × (f a ≡ b)
  past_map f None b e = cc
  past_map f (Some a) b e = (a, refl, cc)

  pub past_ok : (next : A → Result B Code) (r : Result A Code) (b : B) → goes_on next r ≡ Ok b → (a : A) × (r ≡ Ok a) × (next a ≡ Ok b)
  past_ok next (Ok a) b e = (a, refl, e)
  past_ok next (Err c) b e = cc

  -- what cannot be read is code 1, so any other outcome comes from what was read
  pub past_sheet : (next : A → Result B Code) (o : Option A) (r : Result B Code) → (Err Sheet ≡ r → ⊥) → goes_on next (ok_or o Sheet) ≡ r → (a : A) × (o ≡ Some a) × (next a ≡ r)
  past_sheet next None r other e = absurd (other e)
  past_sheet next (Some a) r other e = (a, refl, e)

pub past_or : {A : Type 0} (o : Option A) (c : Code) (a : A) → ok_or o c ≡ Ok a → o ≡ Some a
past_or None c a e = cc
past_or (Some b) c a e = cc

-- a fault is nothing that was read
pub not_read : {A : Type 0} (c : Code) (a : A) → ◌≡◌ {A = Result A Code} (Err c) (Ok a) → ⊥
not_read c a e = cc

-- the two numbers of a line that was read
pub record LineOf (bytes : List ℕ) (x y : ℕ) (rest : List ℕ) : Type 0 where
  pub middle : List ℕ
  pub first : number space bytes ≡ Some (x, middle)
  pub second : number line_end middle ≡ Some (y, rest)

pub past_pair : (bytes : List ℕ) (x y : ℕ) (rest : List ℕ) → pair bytes ≡ Some (x, y, rest) → LineOf bytes x y rest
unfolding pair
past_pair bytes x y rest e =
    let ends : ℕ × List ℕ → Option (ℕ × ℕ × List ℕ) = λ t. option_map (λ (u : ℕ × List ℕ). (t.0, u.0, u.1)) (number line_end t.1) in
    let p = past_some ends (number space bytes) (x, y, rest) e in
    let q = past_map (λ (u : ℕ × List ℕ). (p.0.0, u.0, u.1)) (number line_end p.0.1) (x, y, rest) p.2 in
    let left : p.0.0 ≡ x = ap (λ t. t.0) q.2 in
    let right : q.0.0 ≡ y = ap (λ t. t.1) q.2 in
    let after : q.0.1 ≡ rest = ap (λ t. t.2) q.2 in
    record {
      middle = p.0.1;
      first = p.1 ∙ ap (λ (k : ℕ). Some (k, p.0.1)) left;
      second = q.1 ∙ ap₂ (λ (k : ℕ) (r : List ℕ). Some (k, r)) right after;
    }

-- the first of some lines that were read, and the lines after it
pub record FirstLine (n : ℕ) (bytes : List ℕ) (l : Lines) : Type 0 where
  pub x : ℕ
  pub y : ℕ
  pub after : List ℕ
  pub below : Lines
  pub line : LineOf bytes x y after
  pub rest : pairs n after ≡ Some below
  pub is : above x y below ≡ l

pub past_pairs : (n : ℕ) (bytes : List ℕ) (l : Lines) → pairs (suc n) bytes ≡ Some l → FirstLine n bytes l
unfolding pairs
past_pairs n bytes l e =
    let p = past_some (λ (t : ℕ × ℕ × List ℕ). option_map (above t.0 t.1) (pairs n t.2)) (pair bytes) l e in
    let q = past_map (above p.0.0 p.0.1) (pairs n p.0.2) l p.2 in
    record {
      x = p.0.0;
      y = p.0.1;
      after = p.0.2;
      below = q.0;
      line = past_pair bytes p.0.0 p.0.1 p.0.2 p.1;
      rest = q.1;
      is = q.2;
    }
