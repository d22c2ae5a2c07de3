-- Laws of the least and the greatest over the indices below a count that pass a test: only these indices matter, and where all pass the value for none does not. Raised by
-- one amount they are the least and the greatest of naturals, in which an index that does not pass stands as a top, or as 0. Assumes nothing.
use Prim.Native.Nat.{ℕ, zero, suc, ◌+◌, ◌≤◌, ◌<◌, min, max}
use mathlib.Core.Path.{◌≡◌, refl, sym, ap, ap₂, ◌∙◌}
use mathlib.Core.Bool.{Bool, true, false, cond, not}
use native.Mathlib.Omega.{arith}
use native.Mathlib.Numerals.{add-one}
use lib.IntN.{ℤ, pos, sub_ℕ}
use lib.Dec.{ltb}
use borrow.Author.Tests.{lt-ltb}
use Rattle.circle.specs.Signed.{minℤ, maxℤ}
use Rattle.circle.specs.Over.{all_below, some_below, over_below, least_where, greatest_where, least_below}
use Rattle.circle.proofs.Numbers.Signed.{min_sub, max_sub}
use Rattle.circle.proofs.Numbers.Over.{min_below, min_le, min_from, max_below, max_ge, max_to}
use Rattle.circle.proofs.Numbers.Tests.{all_ext, some_true, some_where, some_none}

module _ (rule : ℤ → ℤ → ℤ) (none : ℤ) where
  -- only the indices below the count matter
  pub over_ext : (n : ℕ) (t t' : ℕ → Bool) (f g : ℕ → ℤ) → ((k : ℕ) → k < n → t k ≡ t' k) → ((k : ℕ) → k < n → f k ≡ g k) → over_below rule none n t f ≡ over_below rule none n t' g
  unfolding over_below
  over_ext zero t t' f g same e = refl
  over_ext (suc n) t t' f g same e =
      let some : some_below n t ≡ some_below n t' = ap not (all_ext n (λ k. not (t k)) (λ k. not (t' k)) (λ k l. ap not (same k (omega arith)))) in
      let before = over_ext n t t' f g (λ k l. same k (omega arith)) (λ k l. e k (omega arith)) in
      let here : t n ≡ t' n = same n (omega arith) in
      let value : f n ≡ g n = e n (omega arith) in
      cc (some, before, here, value)

  -- one more index, where each passes
  pub over_more : (n : ℕ) (f : ℕ → ℤ) → 1 ≤ n → over_below rule none (n + 1) (λ k. true) f ≡ rule (over_below rule none n (λ k. true) f) (f n)
  unfolding over_below
  over_more n f l =
      ap (λ (k : ℕ). over_below rule none k (λ q. true) f) (add-one n)
      ∙ ap (λ t. cond t (rule (over_below rule none n (λ k. true) f) (f n)) (f n)) (some_true n (λ k. true) 0 (omega arith) refl)

-- where every index passes there is one, and the value for none does not matter
pub over_all : (rule : ℤ → ℤ → ℤ) (none none' : ℤ) (n : ℕ) (f : ℕ → ℤ) → 0 < n → over_below rule none n (λ k. true) f ≡ over_below rule none' n (λ k. true) f
unfolding over_below all_below
over_all rule none none' zero f l = absurd (omega arith)
over_all rule none none' (suc zero) f l = refl
over_all rule none none' (suc (suc n)) f l =
    ap (λ x. cond (some_below (suc n) (λ k. true)) (rule x (f (suc n))) (f (suc n))) (over_all rule none none' (suc n) f (omega arith))

pub least_more : (n : ℕ) (f : ℕ → ℤ) → 1 ≤ n → least_below (n + 1) f ≡ minℤ (least_below n f) (f n)
least_more = over_more minℤ (pos 0)

-- a natural for each index: g's where the test passes, and another number where it does not
abbrev pub passing : ℕ → (ℕ → Bool) → (ℕ → ℕ) → ℕ → ℕ
passing other test g k = cond (test k) (g k) other

-- where none passes the least is the top, and the greatest 0
min_none : (top n : ℕ) (test : ℕ → Bool) (g : ℕ → ℕ) → some_below n test ≡ false → min_below top n (passing top test g) ≡ top
min_none top n test g none =
    let all = min_from top n (passing top test g) top (omega arith) (λ k l. omega (arith, ap (λ t. cond t (g k) top) (some_none n test none k l))) in
    omega (arith, min_le top n (passing top test g))

max_none : (n : ℕ) (test : ℕ → Bool) (g : ℕ → ℕ) → some_below n test ≡ false → max_below n (passing 0 test g) ≡ 0
max_none n test g none =
    let all = max_to n (passing 0 test g) 0 (λ k l. omega (arith, ap (λ t. cond t (g k) 0) (some_none n test none k l))) in
    omega arith

pub least-raised : (h top n : ℕ) (test : ℕ → Bool) (f : ℕ → ℤ) (g : ℕ → ℕ) → ((k : ℕ) → k < n → g k ≤ top) → ((k : ℕ) → k < n → f k ≡ sub_ℕ (g k) h) → least_where (sub_ℕ top h) n test f ≡ sub_ℕ (min_below top n (passing top test g)) h
unfolding over_below min_below
least-raised h top zero test f g low e = refl
least-raised h top (suc n) test f g low e =
    go (least_where (sub_ℕ top h) n test f) (min_below top n (passing top test g)) (test n) (some_below n test)
    (least-raised h top n test f g (λ k l. low k (omega arith)) (λ k l. e k (omega arith)))
    (min_le top n (passing top test g))
    (min_none top n test g)
  where
    go : (x : ℤ) (least : ℕ) (p some : Bool) → x ≡ sub_ℕ least h → least ≤ top → (some ≡ false → least ≡ top) → cond p (cond some (minℤ x (f n)) (f n)) x ≡ sub_ℕ (min least (cond p (g n) top)) h
    go x least false some before below none =
        let same : least ≡ min least top = omega arith in
        before ∙ ap (λ (y : ℕ). sub_ℕ y h) same
    go x least true true before below none = ap₂ minℤ before (e n (omega arith)) ∙ min_sub least (g n) h
    go x least true false before below none =
        let new : g n ≡ min least (g n) = omega (arith, low n (omega arith), none refl) in
        e n (omega arith) ∙ ap (λ (y : ℕ). sub_ℕ y h) new

-- the greatest of naturals above 0, of which 0 says that there is none
abbrev pub or_top : ℕ → ℕ → ℕ
or_top top m = cond (ltb 0 m) m top

-- where one passes the greatest is above 0
max_some : (n : ℕ) (test : ℕ → Bool) (g : ℕ → ℕ) → ((k : ℕ) → k < n → 1 ≤ g k) → some_below n test ≡ true → 1 ≤ max_below n (passing 0 test g)
max_some n test g above some =
    let w = some_where n test some in
    let passes : passing 0 test g w.index ≡ g w.index = ap (λ t. cond t (g w.index) 0) w.is in
    omega (arith, max_ge n (passing 0 test g) w.index w.below, above w.index w.below)

pub top_some : (top m : ℕ) → 1 ≤ m → or_top top m ≡ m
top_some top m l = ap (λ t. cond t m top) (lt-ltb 0 m l)

pub greatest_raised : (h top n : ℕ) (test : ℕ → Bool) (f : ℕ → ℤ) (g : ℕ → ℕ) → ((k : ℕ) → k < n → 1 ≤ g k) → ((k : ℕ) → k < n → f k ≡ sub_ℕ (g k) h) → greatest_where (sub_ℕ top h) n test f ≡ sub_ℕ (or_top top (max_below n (passing 0 test g))) h
unfolding over_below max_below
greatest_raised h top zero test f g above e = refl
greatest_raised h top (suc n) test f g above e =
    go (greatest_where (sub_ℕ top h) n test f) (max_below n (passing 0 test g)) (test n) (some_below n test)
    (greatest_raised h top n test f g (λ k l. above k (omega arith)) (λ k l. e k (omega arith)))
    (max_some n test g (λ k l. above k (omega arith)))
    (max_none n test g)
  where
    here : 1 ≤ g n
    here = above n (omega arith)

    go : (x : ℤ) (most : ℕ) (p some : Bool) → x ≡ sub_ℕ (or_top top most) h → (some ≡ true → 1 ≤ most) → (some ≡ false → most ≡ 0) → cond p (cond some (maxℤ x (f n)) (f n)) x ≡ sub_ℕ (or_top top (max most (cond p (g n) 0))) h
    go x most false some before one none =
        let same : most ≡ max most 0 = omega arith in
        before ∙ ap (λ (y : ℕ). sub_ℕ (or_top top y) h) same
    go x most true true before one none =
        ap₂ maxℤ (before ∙ ap (λ (y : ℕ). sub_ℕ y h) (top_some top most (one refl))) (e n (omega arith))
        ∙ max_sub most (g n) h
        ∙ ap (λ (y : ℕ). sub_ℕ y h) (sym (top_some top (max most (g n)) (omega (arith, here))))
    go x most true false before one none =
        let new : g n ≡ max most (g n) = omega (arith, none refl) in
        e n (omega arith) ∙ ap (λ (y : ℕ). sub_ℕ y h) (new ∙ sym (top_some top (max most (g n)) (omega (arith, here))))
