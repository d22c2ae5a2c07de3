-- Laws of sums, choices and searches over the indices below a count: how each grows by one index, that only the indices below the count matter, and
-- how a search is settled. Assumes nothing.
use Prim.Native.Nat.{ℕ, zero, suc, ◌+◌, ◌≤◌, ◌<◌, min, max}
use mathlib.Core.Path.{◌≡◌, refl, sym, ap, ap₂, ◌∙◌}
use mathlib.Core.Bool.{Bool, true, false, cond}
use mathlib.Core.List.{List, [], ◌∷◌, ◌++◌, append_assoc}
use mathlib.Core.Logic.{⊎_elim}
use native.Mathlib.Omega.{arith}
use native.Mathlib.Numerals.{add-one}
use native.Mathlib.Nat.{eq-or-lt_of_le, le_of_suc-le-suc}
use lib.ListN.{length, length-append, get_or, set, drop}
use lib.Seq.{set_at, drop-cons, get_or_at, append_snoc}
use Rattle.circle.specs.Over.{Found, nowhere, at, or_else, first_below, sum_below, list_below, index_of}

-- a search comes to nothing where no index passes
pub first_nowhere : (n : ℕ) (test : ℕ → Bool) → ((k : ℕ) → k < n → test k ≡ false) → first_below n test ≡ nowhere
unfolding first_below
first_nowhere zero test none = refl
first_nowhere (suc n) test none =
    let here : n < suc n = omega arith in
    ap₂ (λ f t. or_else f (cond t (at n) nowhere)) (first_nowhere n test (λ k l. none k (omega arith))) (none n here)

-- and it comes to the index that passes while none before it does
pub first_at : (n : ℕ) (test : ℕ → Bool) (i : ℕ) → i < n → ((k : ℕ) → k < i → test k ≡ false) → test i ≡ true → first_below n test ≡ at i
unfolding first_below
first_at zero test i l none here = absurd (omega arith)
first_at (suc n) test i l none here =
    ⊎_elim
    (λ e.
    ap₂ (λ f t. or_else f (cond t (at n) nowhere))
    (first_nowhere n test (λ k m. none k (omega (arith, e))))
    (ap test (sym e) ∙ here)
    ∙ ap at (sym e))
    (λ m. ap (λ f. or_else f (cond (test n) (at n) nowhere)) (first_at n test i m none here))
    (eq-or-lt_of_le (le_of_suc-le-suc l))

-- only the indices below the count matter
pub first_ext : (n : ℕ) (f g : ℕ → Bool) → ((k : ℕ) → k < n → f k ≡ g k) → first_below n f ≡ first_below n g
unfolding first_below
first_ext zero f g e = refl
first_ext (suc n) f g e =
    let here : n < suc n = omega arith in
    ap₂ (λ r t. or_else r (cond t (at n) nowhere)) (first_ext n f g (λ k l. e k (omega arith))) (e n here)

pub sum_more : (n : ℕ) (f : ℕ → ℕ) → sum_below (n + 1) f ≡ sum_below n f + f n
unfolding sum_below
sum_more n f = ap (λ (k : ℕ). sum_below k f) (add-one n)

-- and a longer sum is not less
pub sum_rises : (f : ℕ → ℕ) (n j : ℕ) → j ≤ n → sum_below j f ≤ sum_below n f
unfolding sum_below
sum_rises f zero j l = let e : j ≡ 0 = omega arith in omega (arith, ap (λ (k : ℕ). sum_below k f) e)
sum_rises f (suc n) j l =
    ⊎_elim
    (λ e. omega (arith, ap (λ (k : ℕ). sum_below k f) e))
    (λ h. omega (arith, sum_rises f n j (le_of_suc-le-suc h)))
    (eq-or-lt_of_le l)

-- the least and the greatest of naturals, from a top or from 0
unfoldable pub min_below : ℕ → ℕ → (ℕ → ℕ) → ℕ
min_below top zero g = top
min_below top (suc n) g = min (min_below top n g) (g n)

unfoldable pub max_below : ℕ → (ℕ → ℕ) → ℕ
max_below zero g = 0
max_below (suc n) g = max (max_below n g) (g n)

pub min_more : (top n : ℕ) (g : ℕ → ℕ) → min_below top (n + 1) g ≡ min (min_below top n g) (g n)
unfolding min_below
min_more top n g = ap (λ (k : ℕ). min_below top k g) (add-one n)

pub min_le : (top n : ℕ) (g : ℕ → ℕ) → min_below top n g ≤ top
unfolding min_below
min_le top zero g = omega arith
min_le top (suc n) g = let below = min_le top n g in omega arith

-- the least is at most each, and a number that is at most each is at most the least
pub min_at : (top n : ℕ) (g : ℕ → ℕ) (k : ℕ) → k < n → min_below top n g ≤ g k
unfolding min_below
min_at top zero g k l = absurd (omega arith)
min_at top (suc n) g k l =
    ⊎_elim
    (λ e. let here : g k ≡ g n = ap g e in omega arith)
    (λ m. let below = min_at top n g k m in omega arith)
    (eq-or-lt_of_le (le_of_suc-le-suc l))

pub min_from : (top n : ℕ) (g : ℕ → ℕ) (x : ℕ) → x ≤ top → ((k : ℕ) → k < n → x ≤ g k) → x ≤ min_below top n g
unfolding min_below
min_from top zero g x l each = l
min_from top (suc n) g x l each =
    let before = min_from top n g x l (λ k h. each k (omega arith)) in
    let last = each n (omega arith) in
    omega arith

pub max_more : (n : ℕ) (g : ℕ → ℕ) → max_below (n + 1) g ≡ max (max_below n g) (g n)
unfolding max_below
max_more n g = ap (λ (k : ℕ). max_below k g) (add-one n)

-- the greatest is at least each, and a number that is at least each is at least the greatest
pub max_ge : (n : ℕ) (g : ℕ → ℕ) (k : ℕ) → k < n → g k ≤ max_below n g
unfolding max_below
max_ge zero g k l = absurd (omega arith)
max_ge (suc n) g k l =
    ⊎_elim
    (λ e. let here : g k ≡ g n = ap g e in omega arith)
    (λ m. let below = max_ge n g k m in omega arith)
    (eq-or-lt_of_le (le_of_suc-le-suc l))

pub max_to : (n : ℕ) (g : ℕ → ℕ) (x : ℕ) → ((k : ℕ) → k < n → g k ≤ x) → max_below n g ≤ x
unfolding max_below
max_to zero g x each = omega arith
max_to (suc n) g x each =
    let before = max_to n g x (λ k h. each k (omega arith)) in
    let last = each n (omega arith) in
    omega arith

-- the list of the values below a count
pub length_list_below {ℓ} : {A : Type ℓ} (n : ℕ) (f : ℕ → A) → length (list_below n f) ≡ n
unfolding list_below
length_list_below zero f = refl
length_list_below (suc n) f =
    length-append (list_below n f) (f n ∷ []) ∙ ap (λ (k : ℕ). k + 1) (length_list_below n f) ∙ add-one n

pub list_more {ℓ} : {A : Type ℓ} (n : ℕ) (f : ℕ → A) → list_below (n + 1) f ≡ list_below n f ++ (f n ∷ [])
unfolding list_below
list_more n f = ap (λ (k : ℕ). list_below k f) (add-one n)

pub list_ext {ℓ} : {A : Type ℓ} (n : ℕ) (f g : ℕ → A) → ((k : ℕ) → k < n → f k ≡ g k) → list_below n f ≡ list_below n g
unfolding list_below
list_ext zero f g e = refl
list_ext (suc n) f g e = ap₂ (λ xs x. xs ++ (x ∷ [])) (list_ext n f g (λ k l. e k (omega arith))) (e n (omega arith))

pub get_or-list_below {ℓ} : {A : Type ℓ} (n : ℕ) (f : ℕ → A) (rest : List A) (k : ℕ) (d : A) → k < n → get_or (list_below n f ++ rest) k d ≡ f k
unfolding list_below
get_or-list_below zero f rest k d l = absurd (omega arith)
get_or-list_below (suc n) f rest k d l =
    ap (λ x. get_or x k d) (append_assoc (list_below n f) (f n ∷ []) rest)
    ∙ ⊎_elim
    (λ e.
    ap (λ (i : ℕ). get_or (list_below n f ++ (f n ∷ rest)) i d) e
    ∙ get_or_at (list_below n f) (f n) rest d n (length_list_below n f)
    ∙ ap f (sym e))
    (λ m. get_or-list_below n f (f n ∷ rest) k d m)
    (eq-or-lt_of_le (le_of_suc-le-suc l))

-- one more entry of a list that is filled from the front
pub fill_more {ℓ} : {A : Type ℓ} (xs : List A) (f : ℕ → A) (i : ℕ) (d : A) → i < length xs → set (list_below i f ++ drop i xs) i (f i) ≡ list_below (i + 1) f ++ drop (i + 1) xs
fill_more xs f i d l =
    ap (λ ys. set (list_below i f ++ ys) i (f i)) (drop-cons xs i d l)
    ∙ set_at (list_below i f) (get_or xs i d) (drop (suc i) xs) (f i) i (length_list_below i f)
    ∙ sym (append_snoc (list_below i f) (f i) (drop (suc i) xs))
    ∙ ap₂ (λ a (k : ℕ). a ++ drop k xs) (sym (list_more i f)) (sym (add-one i))

-- the same as a store: the entry at i becomes f's value there
pub fill_store {ℓ} : {A : Type ℓ} (xs all : List A) (f : ℕ → A) (i : ℕ) (x d : A) → i < length xs → all ≡ list_below i f ++ drop i xs → x ≡ f i → set all i x ≡ list_below (i + 1) f ++ drop (i + 1) xs
fill_store xs all f i x d l e v = ap₂ (λ a y. set a i y) e v ∙ fill_more xs f i d l

at_nowhere : (i : ℕ) → at i ≡ nowhere → ⊥
at_nowhere i r = let z : ◌≡◌ {A = ℕ} 0 1 = cc in omega arith

-- a search that found nothing passed no index
pub first-none : (n : ℕ) (test : ℕ → Bool) → first_below n test ≡ nowhere → (k : ℕ) → k < n → test k ≡ false
unfolding first_below
first-none zero test e k l = absurd (omega arith)
first-none (suc n) test e k l = go (first_below n test) (test n) refl refl (λ p m. first-none n test p k m)
  where
    go : (f : Found) (t : Bool) → first_below n test ≡ f → test n ≡ t → (first_below n test ≡ nowhere → k < n → test k ≡ false) → test k ≡ false
    go (at i) t p q below =
        absurd (at_nowhere i (sym (ap (λ r. or_else r (cond (test n) (at n) nowhere)) p) ∙ e))
    go nowhere true p q below =
        absurd (at_nowhere n (sym (ap₂ (λ r s. or_else r (cond s (at n) nowhere)) p q) ∙ e))
    go nowhere false p q below =
        ⊎_elim (λ s. ap test s ∙ q) (λ m. below p m) (eq-or-lt_of_le (le_of_suc-le-suc l))

-- what a search finds is below the count
first_step : (k : ℕ) (f : Found) (t : Bool) → ((i : ℕ) → f ≡ at i → i < k) → (i : ℕ) → or_else f (cond t (at k) nowhere) ≡ at i → i < suc k
first_step k (at j) t below i e = let l : j < k = below j refl in let same : j ≡ i = cc in omega arith
first_step k nowhere true below i e = let same : k ≡ i = cc in omega arith
first_step k nowhere false below i e = absurd (at_nowhere i (sym e))

first_below_lem : (n : ℕ) (test : ℕ → Bool) (i : ℕ) → first_below n test ≡ at i → i < n
unfolding first_below
first_below_lem zero test i e = absurd (at_nowhere i (sym e))
first_below_lem (suc k) test i e = first_step k (first_below k test) (test k) (first_below_lem k test) i e

pub first_lt : (n : ℕ) (test : ℕ → Bool) → 0 < n → index_of (first_below n test) < n
first_lt n test some = settle (first_below n test) refl
  where
    settle : (f : Found) → first_below n test ≡ f → index_of f < n
    settle nowhere e = some
    settle (at i) e = first_below_lem n test i e
