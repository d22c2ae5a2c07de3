-- Sums, choices and searches over the indices below a count. An index stands for a signal or a link; index 0 is number 1 on the street.
use Rattle.std.specs.Prelude.{Bool, true, false, cond, not, ℕ, zero, suc, ◌+◌, List, [], ◌∷◌, ◌++◌, ℤ, pos}
use Rattle.circle.specs.Signed.{minℤ, maxℤ}

-- what a search over indices comes to
pub data Found : Type 0 where
  nowhere : Found
  at : ℕ → Found

abbrev pub or_else : Found → Found → Found
or_else nowhere g = g
or_else (at i) g = at i

-- both tests, and either
abbrev pub ◌and◌ : Bool → Bool → Bool
p and q = cond p q false

abbrev pub ◌or◌ : Bool → Bool → Bool
p or q = cond p true q

infixr 5 ◌and◌
infixr 4 ◌or◌
-- the smallest index below n at which the test holds
unfoldable pub first_below : ℕ → (ℕ → Bool) → Found
first_below zero test = nowhere
first_below (suc n) test = or_else (first_below n test) (cond (test n) (at n) nowhere)

-- the sum of f over the indices below n
unfoldable pub sum_below : ℕ → (ℕ → ℕ) → ℕ
sum_below zero f = 0
sum_below (suc n) f = sum_below n f + f n

-- how many indices below n pass the test
abbrev pub count_below : ℕ → (ℕ → Bool) → ℕ
count_below n test = sum_below n (λ k. cond (test k) 1 0)

-- whether every index below n passes the test
unfoldable pub all_below : ℕ → (ℕ → Bool) → Bool
all_below zero test = true
all_below (suc n) test = cond (all_below n test) (test n) false

-- whether some index below n passes it
abbrev pub some_below : ℕ → (ℕ → Bool) → Bool
some_below n test = not (all_below n (λ k. not (test k)))

-- what a rule for two numbers makes of f over the indices below n that pass the test, one after the other; `none` where no index passes
unfoldable pub over_below : (ℤ → ℤ → ℤ) → ℤ → ℕ → (ℕ → Bool) → (ℕ → ℤ) → ℤ
over_below rule none zero test f = none
over_below rule none (suc n) test f =
    cond (test n) (cond (some_below n test) (rule (over_below rule none n test f) (f n)) (f n)) (over_below rule none n test f)

-- the least of f over the indices below n that pass the test, and the greatest
abbrev pub least_where : ℤ → ℕ → (ℕ → Bool) → (ℕ → ℤ) → ℤ
least_where none n test f = over_below minℤ none n test f

abbrev pub greatest_where : ℤ → ℕ → (ℕ → Bool) → (ℕ → ℤ) → ℤ
greatest_where none n test f = over_below maxℤ none n test f

-- the least of f over all indices below n; there is no street with n = 0, and 0 stands for it
abbrev pub least_below : ℕ → (ℕ → ℤ) → ℤ
least_below n f = least_where (pos 0) n (λ k. true) f

-- the index that a search found, or 0 where it found none
abbrev pub index_of : Found → ℕ
index_of nowhere = 0
index_of (at i) = i

-- the list of f at the indices below n
unfoldable pub list_below {ℓ} : {A : Type ℓ} → ℕ → (ℕ → A) → List A
list_below zero f = []
list_below (suc n) f = list_below n f ++ (f n ∷ [])
