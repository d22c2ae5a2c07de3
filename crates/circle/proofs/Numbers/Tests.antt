-- The tests over the indices below a count, as propositions: all pass, some pass, and which number is the greatest that passes. Each goes by recursion on the count, and only
-- the indices below it matter. Assumes nothing.
use Prim.Native.Nat.{ℕ, zero, suc, ◌≤◌, ◌<◌}
use mathlib.Core.Path.{◌≡◌, refl, sym, ap, ap₂, ◌∙◌}
use mathlib.Core.Bool.{Bool, true, false, cond, not}
use mathlib.Core.Logic.{⊎_elim}
use native.Mathlib.Omega.{arith}
use native.Mathlib.Nat.{eq-or-lt_of_le, le_of_suc-le-suc}
use borrow.Author.Tests.{not-true, not-false}
use Rattle.circle.specs.Over.{Found, nowhere, at, or_else, first_below, index_of, all_below, some_below}
use Rattle.circle.specs.Bands.{greatest_up_to}
use Rattle.circle.proofs.Numbers.Over.{first-none}

pub true_false : ◌≡◌ {A = Bool} true false → ⊥
true_false e = let z : ◌≡◌ {A = ℕ} 0 1 = cc in omega arith

-- two tests in a row
pub cond_left : (p q : Bool) → cond p q false ≡ true → p ≡ true
cond_left true q e = refl
cond_left false q e = e

pub cond_right : (p q : Bool) → cond p q false ≡ true → q ≡ true
cond_right true q e = e
cond_right false q e = absurd (true_false (sym e))

-- all pass where each does
pub all_true : (n : ℕ) (test : ℕ → Bool) → ((k : ℕ) → k < n → test k ≡ true) → all_below n test ≡ true
unfolding all_below
all_true zero test each = refl
all_true (suc n) test each =
    ap₂ (λ p q. cond p q false) (all_true n test (λ k l. each k (omega arith))) (each n (omega arith))

-- and each does where all pass
pub all_each : (n : ℕ) (test : ℕ → Bool) → all_below n test ≡ true → (k : ℕ) → k < n → test k ≡ true
unfolding all_below
all_each zero test e k l = absurd (omega arith)
all_each (suc n) test e k l =
    ⊎_elim
    (λ s. ap test s ∙ cond_right (all_below n test) (test n) e)
    (λ m. all_each n test (cond_left (all_below n test) (test n) e) k m)
    (eq-or-lt_of_le (le_of_suc-le-suc l))

pub all_ext : (n : ℕ) (f g : ℕ → Bool) → ((k : ℕ) → k < n → f k ≡ g k) → all_below n f ≡ all_below n g
unfolding all_below
all_ext zero f g e = refl
all_ext (suc n) f g e =
    ap₂ (λ p q. cond p q false) (all_ext n f g (λ k l. e k (omega arith))) (e n (omega arith))

-- an index below a count at which a test comes to an answer
pub record Where (n : ℕ) (test : ℕ → Bool) (answer : Bool) : Type 0 where
  pub index : ℕ
  pub below : index < n
  pub is : test index ≡ answer

-- where not all pass, one fails
all_fails : (n : ℕ) (test : ℕ → Bool) → all_below n test ≡ false → Where n test false
unfolding all_below
all_fails zero test e = absurd (true_false e)
all_fails (suc n) test e = go (all_below n test) (test n) refl refl e (all_fails n test)
  where
    go : (p q : Bool) → all_below n test ≡ p → test n ≡ q → cond p q false ≡ false → (all_below n test ≡ false → Where n test false) → Where (suc n) test false
    go true q ep eq f less = record { index = n; below = omega arith; is = eq ∙ f }
    go false q ep eq f less =
        let w = less ep in
        record { index = w.index; below = omega (arith, w.below); is = w.is }

-- some pass where one does, and then one can be named
pub some_true : (n : ℕ) (test : ℕ → Bool) (k : ℕ) → k < n → test k ≡ true → some_below n test ≡ true
some_true n test k l e = go (all_below n (λ i. not (test i))) refl
  where
    go : (p : Bool) → all_below n (λ i. not (test i)) ≡ p → not p ≡ true
    go true ep =
        absurd (true_false (sym e ∙ not-true (test k) (all_each n (λ i. not (test i)) ep k l)))
    go false ep = refl

pub some_where : (n : ℕ) (test : ℕ → Bool) → some_below n test ≡ true → Where n test true
some_where n test e =
    let w = all_fails n (λ i. not (test i)) (not-true (all_below n (λ i. not (test i))) e) in
    record { index = w.index; below = w.below; is = not-false (test w.index) w.is }

-- and where not, none does
pub some_none : (n : ℕ) (test : ℕ → Bool) → some_below n test ≡ false → (k : ℕ) → k < n → test k ≡ false
some_none n test e k l =
    not-true (test k) (all_each n (λ i. not (test i)) (not-false (all_below n (λ i. not (test i))) e) k l)

-- the greatest up to n is at most n, passes unless it is 0, and is at least whatever passes
pub greatest_le : (n : ℕ) (test : ℕ → Bool) → greatest_up_to n test ≤ n
unfolding greatest_up_to
greatest_le zero test = omega arith
greatest_le (suc n) test = go (test (suc n)) (greatest_le n test)
  where
    go : (p : Bool) → greatest_up_to n test ≤ n → cond p (suc n) (greatest_up_to n test) ≤ suc n
    go true l = omega arith
    go false l = omega arith

pub greatest_passes : (n : ℕ) (test : ℕ → Bool) → 1 ≤ greatest_up_to n test → test (greatest_up_to n test) ≡ true
unfolding greatest_up_to
greatest_passes zero test l = absurd (omega arith)
greatest_passes (suc n) test l = go (test (suc n)) refl l (greatest_passes n test)
  where
    go : (p : Bool) → test (suc n) ≡ p → 1 ≤ cond p (suc n) (greatest_up_to n test) → (1 ≤ greatest_up_to n test → test (greatest_up_to n test) ≡ true) → test (cond p (suc n) (greatest_up_to n test)) ≡ true
    go true e m less = e
    go false e m less = less m

pub greatest_ge : (n : ℕ) (test : ℕ → Bool) (k : ℕ) → k ≤ n → test k ≡ true → k ≤ greatest_up_to n test
unfolding greatest_up_to
greatest_ge zero test k l e = l
greatest_ge (suc n) test k l e = go (test (suc n)) refl (greatest_ge n test k)
  where
    go : (p : Bool) → test (suc n) ≡ p → (k ≤ n → test k ≡ true → k ≤ greatest_up_to n test) → k ≤ cond p (suc n) (greatest_up_to n test)
    go true ep less = l
    go false ep less =
        ⊎_elim
        (λ s. absurd (true_false (sym e ∙ ap test s ∙ ep)))
        (λ m. less (le_of_suc-le-suc m) e)
        (eq-or-lt_of_le l)

-- so a number with these three properties is the greatest
pub greatest_is : (n : ℕ) (test : ℕ → Bool) (v : ℕ) → v ≤ n → (1 ≤ v → test v ≡ true) → ((k : ℕ) → 1 ≤ k → k ≤ n → test k ≡ true → k ≤ v) → greatest_up_to n test ≡ v
greatest_is n test v l passes most = go v refl (greatest_up_to n test) refl
  where
    go : (a : ℕ) → v ≡ a → (g : ℕ) → greatest_up_to n test ≡ g → greatest_up_to n test ≡ v
    go zero ea zero eg = eg ∙ sym ea
    go zero ea (suc g) eg =
        let some : 1 ≤ greatest_up_to n test = omega arith in
        let high = most (greatest_up_to n test) some (greatest_le n test) (greatest_passes n test some) in
        omega arith
    go (suc a) ea zero eg =
        let some : 1 ≤ v = omega arith in
        let low = greatest_ge n test v l (passes some) in
        omega arith
    go (suc a) ea (suc g) eg =
        let some : 1 ≤ greatest_up_to n test = omega arith in
        let some' : 1 ≤ v = omega arith in
        let high = most (greatest_up_to n test) some (greatest_le n test) (greatest_passes n test some) in
        let low = greatest_ge n test v l (passes some') in
        omega arith

pub greatest_up_to_ext : (n : ℕ) (f g : ℕ → Bool) → ((k : ℕ) → k ≤ n → f k ≡ g k) → greatest_up_to n f ≡ greatest_up_to n g
unfolding greatest_up_to
greatest_up_to_ext zero f g e = refl
greatest_up_to_ext (suc n) f g e =
    ap₂ (λ p (r : ℕ). cond p (suc n) r) (e (suc n) (omega arith)) (greatest_up_to_ext n f g (λ k l. e k (omega arith)))

-- what a search finds where some index passes: that one passes, and none before it does
pub record First (n : ℕ) (test : ℕ → Bool) (i : ℕ) : Type 0 where
  pub below : i < n
  pub passes : test i ≡ true
  pub least : (k : ℕ) → k < n → test k ≡ true → i ≤ k

first_step : (n : ℕ) (test : ℕ → Bool) (f : Found) (t : Bool) → first_below n test ≡ f → test n ≡ t → ((i : ℕ) → f ≡ at i → First n test i) → (i : ℕ) → or_else f (cond t (at n) nowhere) ≡ at i → First (suc n) test i
first_step n test (at j) t ef et less i e =
    let same : j ≡ i = cc in
    let here = less i e in
    record {
      below = omega (arith, here.below);
      passes = here.passes;
      least =
          λ k l p.
          ⊎_elim
          (λ s. omega (arith, s, here.below))
          (λ m. here.least k m p)
          (eq-or-lt_of_le (le_of_suc-le-suc l));
    }
first_step n test nowhere true ef et less i e =
    let same : n ≡ i = cc in
    record {
      below = omega arith;
      passes = ap test (sym same) ∙ et;
      least =
          λ k l p.
          ⊎_elim
          (λ s. omega (arith, s))
          (λ m. absurd (true_false (sym p ∙ first-none n test ef k m)))
          (eq-or-lt_of_le (le_of_suc-le-suc l));
    }
first_step n test nowhere false ef et less i e = let z : ◌≡◌ {A = ℕ} 0 1 = cc in absurd (omega arith)

first_found : (n : ℕ) (test : ℕ → Bool) (i : ℕ) → first_below n test ≡ at i → First n test i
unfolding first_below
first_found zero test i e = let z : ◌≡◌ {A = ℕ} 0 1 = cc in absurd (omega arith)
first_found (suc n) test i e = first_step n test (first_below n test) (test n) refl refl (first_found n test) i e

pub first_where : (n : ℕ) (test : ℕ → Bool) → Where n test true → First n test (index_of (first_below n test))
first_where n test w = settle (first_below n test) refl
  where
    settle : (f : Found) → first_below n test ≡ f → First n test (index_of f)
    settle nowhere e = absurd (true_false (sym w.is ∙ first-none n test e w.index w.below))
    settle (at i) e = first_found n test i e
