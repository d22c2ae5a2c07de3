-- The method in naturals: once raised by the cycle, b(i) and B are the least and the greatest of naturals, and the first candidate that attains the greatest is the
-- reference. A resting signal leaves a candidate the whole cycle, and as a candidate it ranks 0, below every signal that has a red. Assumes nothing.
use Prim.Native.Nat.{ℕ, ◌+◌, ◌-◌, ◌*◌, ◌≤◌, ◌<◌, max}
use mathlib.Core.Path.{◌≡◌, sym, ap, ap₂, ◌∙◌}
use mathlib.Core.Bool.{Bool, true, false, cond}
use native.Mathlib.Omega.{arith}
use native.Mathlib.Decide.{dec_lt}
use lib.IntN.{ℤ, pos, sub_ℕ}
use borrow.Author.Tests.{lt-ltb, le-ltb}
use Rattle.circle.specs.Signed.{eqℤ, maxℤ}
use Rattle.circle.specs.Over.{◌and◌, first_below, least_where, greatest_where, index_of}
use Rattle.circle.specs.Method.{Timed, halves, u, pair_width, has_red, b, B, reference}
use Rattle.circle.proofs.Numbers.Signed.{sub_eq, pos_sub, max_sub, ne_sub, eqℤ_refl}
use Rattle.circle.proofs.Numbers.Over.{min_below, min_le, min_at, min_from, max_below, max_ge, first_at, first_nowhere}
use Rattle.circle.proofs.Numbers.Where.{passing, or_top, top_some, least-raised, greatest_raised}
use Rattle.circle.proofs.Formulas.Method.{u_range, raised-width}

-- what the method needs of a street's numbers: a signal, and every red shorter than the cycle
pub record Fit (s : Timed) : Type 0 where
  pub some : 1 ≤ s.signals
  pub turns : 1 ≤ s.cycle
  pub goes : (k : ℕ) → k < s.signals → s.red k < s.cycle

-- a pair's width, the larger of the two, and b(i), each raised by the cycle
abbrev pub raised : Timed → ℕ → ℕ → ℕ → ℕ
raised s i j e = u s i j e + (halves s - 2 * s.red j)

abbrev pub larger_raised : Timed → ℕ → ℕ → ℕ
larger_raised s i j = max (raised s i j 0) (raised s i j s.cycle)

-- what a limit j leaves the candidate i: the larger width where j has a red, and the whole cycle, raised by it, where j rests
abbrev pub limit : Timed → ℕ → ℕ → ℕ
limit s i = passing (4 * s.cycle) (has_red s) (larger_raised s i)

unfoldable pub b⁺ : Timed → ℕ → ℕ
b⁺ s i = min_below (4 * s.cycle) s.signals (limit s i)

-- how a candidate ranks: by b(i) where it has a red, and last where it rests
abbrev pub rank : Timed → ℕ → ℕ
rank s = passing 0 (has_red s) (b⁺ s)

-- and B
abbrev pub B⁺ : Timed → ℕ
B⁺ s = or_top (4 * s.cycle) (max_below s.signals (rank s))

pub b⁺_le : (s : Timed) (i : ℕ) → b⁺ s i ≤ 4 * s.cycle
unfolding b⁺
b⁺_le s i = min_le (4 * s.cycle) s.signals (limit s i)

-- a signal that has a red, and one that rests
module _ (s : Timed) where
  pub with_red : (j : ℕ) → 0 < s.red j → has_red s j ≡ true
  with_red j l = lt-ltb 0 (s.red j) l

  pub at_rest : (j : ℕ) → (0 < s.red j → ⊥) → has_red s j ≡ false
  at_rest j none = le-ltb 0 (s.red j) (omega (arith, none))

  pub limit_red : (i j : ℕ) → 0 < s.red j → limit s i j ≡ larger_raised s i j
  limit_red i j l = ap (λ t. cond t (larger_raised s i j) (4 * s.cycle)) (with_red j l)

  pub limit_rest : (i j : ℕ) → (0 < s.red j → ⊥) → limit s i j ≡ 4 * s.cycle
  limit_rest i j none = ap (λ t. cond t (larger_raised s i j) (4 * s.cycle)) (at_rest j none)

  pub rank_red : (i : ℕ) → 0 < s.red i → rank s i ≡ b⁺ s i
  rank_red i l = ap (λ t. cond t (b⁺ s i) 0) (with_red i l)

  pub rank_rest : (i : ℕ) → (0 < s.red i → ⊥) → rank s i ≡ 0
  rank_rest i none = ap (λ t. cond t (b⁺ s i) 0) (at_rest i none)

  -- b(i) is at most what each limit with a red leaves, and a number that is so, and at most the cycle, is at most b(i)
  pub b⁺_at : (i j : ℕ) → j < s.signals → 0 < s.red j → b⁺ s i ≤ larger_raised s i j
  unfolding b⁺
  b⁺_at i j l red = omega (arith, min_at (4 * s.cycle) s.signals (limit s i) j l, limit_red i j red)

  pub b⁺_from : (i x : ℕ) → x ≤ 4 * s.cycle → ((j : ℕ) → j < s.signals → 0 < s.red j → x ≤ larger_raised s i j) → x ≤ b⁺ s i
  unfolding b⁺
  b⁺_from i x whole each = min_from (4 * s.cycle) s.signals (limit s i) x whole (λ j l. go j (dec_lt 0 (s.red j)) (each j l))
    where
      go : (j : ℕ) → Dec (0 < s.red j) → (0 < s.red j → x ≤ larger_raised s i j) → x ≤ limit s i j
      go j (yes red) room = omega (arith, room red, limit_red i j red)
      go j (no none) room = omega (arith, limit_rest i j none)

  -- a candidate that ranks above 0 has a red
  pub ranked : (i : ℕ) → 0 < rank s i → 0 < s.red i
  ranked i above = go (dec_lt 0 (s.red i))
    where
      go : Dec (0 < s.red i) → 0 < s.red i
      go (yes red) = red
      go (no none) = absurd (omega (arith, rank_rest i none))

module _ (s : Timed) (fit : Fit s) where
  pub low : (j : ℕ) → j < s.signals → 2 * s.red j ≤ halves s
  low j l = omega (arith, fit.goes j l)

  pub top : (i j : ℕ) → j < s.signals → larger_raised s i j ≤ 4 * s.cycle
  top i j l =
      let some : 0 < s.cycle = omega (arith, fit.turns) in
      let a = (u_range s i j 0 some).1 in
      let c = (u_range s i j s.cycle some).1 in
      omega arith

  pub limit_le : (i j : ℕ) → j < s.signals → limit s i j ≤ 4 * s.cycle
  limit_le i j l = go (dec_lt 0 (s.red j))
    where
      go : Dec (0 < s.red j) → limit s i j ≤ 4 * s.cycle
      go (yes red) = omega (arith, limit_red s i j red, top i j l)
      go (no none) = omega (arith, limit_rest s i j none)

  -- no raised width is 0, so no candidate with a red ranks 0
  pub b⁺_some : (i : ℕ) → 1 ≤ b⁺ s i
  b⁺_some i = b⁺_from s i 1 (omega (arith, fit.turns)) (λ j l red. omega (arith, (u_range s i j 0 fit.turns).0))

  -- the whole cycle, as the method has it where no signal has a red, raised by the cycle
  whole : pos (halves s) ≡ sub_ℕ (4 * s.cycle) (halves s)
  whole = pos_sub (halves s) ∙ sub_eq (halves s) 0 (4 * s.cycle) (halves s) (omega arith)

  pub b_raised : (i : ℕ) → b s i ≡ sub_ℕ (b⁺ s i) (halves s)
  unfolding b b⁺
  b_raised i =
      let larger : ℕ → ℤ = λ j. maxℤ (pair_width s i j 0) (pair_width s i j s.cycle) in
      ap (λ x. least_where x s.signals (has_red s) larger) whole
      ∙ least-raised (halves s) (4 * s.cycle) s.signals (has_red s) larger (larger_raised s i) (top i)
      (λ j l.
      ap₂ maxℤ (raised-width s i j 0 (low j l)) (raised-width s i j s.cycle (low j l))
      ∙ max_sub (raised s i j 0) (raised s i j s.cycle) (halves s))

  pub B_raised : B s ≡ sub_ℕ (B⁺ s) (halves s)
  unfolding B
  B_raised =
      ap (λ x. greatest_where x s.signals (has_red s) (b s)) whole
      ∙ greatest_raised (halves s) (4 * s.cycle) s.signals (has_red s) (b s) (b⁺ s) (λ k l. b⁺_some k) (λ k l. b_raised k)

  -- where some candidate ranks above 0 the greatest rank is B, and where none does no signal has a red and B is the cycle
  pub B_ranked : 0 < max_below s.signals (rank s) → B⁺ s ≡ max_below s.signals (rank s)
  B_ranked some = top_some (4 * s.cycle) (max_below s.signals (rank s)) some

  pub none_ranked : (0 < max_below s.signals (rank s) → ⊥) → (B⁺ s ≡ 4 * s.cycle) × ((j : ℕ) → j < s.signals → 0 < s.red j → ⊥)
  none_ranked none = (
    ap (λ t. cond t (max_below s.signals (rank s)) (4 * s.cycle)) (le-ltb 0 (max_below s.signals (rank s)) (omega (arith, none))),
    λ j l red. none (omega (arith, max_ge s.signals (rank s) j l, rank_red s j red, b⁺_some j)),
  )

  -- whether a signal is one that the method looks for
  abbrev attains : ℕ → Bool
  attains i = has_red s i and eqℤ (b s i) (B s)

  -- one that ranks below the greatest is not
  passed_over : (k : ℕ) → rank s k < max_below s.signals (rank s) → attains k ≡ false
  passed_over k less = go (dec_lt 0 (s.red k))
    where
      go : Dec (0 < s.red k) → attains k ≡ false
      go (yes red) =
          ap₂ ◌and◌ (with_red s k red)
          (ap₂ eqℤ (b_raised k) B_raised
          ∙ ne_sub (b⁺ s k) (B⁺ s) (halves s) (λ e. omega (arith, less, rank_red s k red, B_ranked (omega (arith, less)), e)))
      go (no none) = ap (λ t. t and eqℤ (b s k) (B s)) (at_rest s k none)

  -- and one that has the greatest is, where that is above 0
  taken : (c : ℕ) → rank s c ≡ max_below s.signals (rank s) → 0 < max_below s.signals (rank s) → attains c ≡ true
  taken c best some =
      let red = ranked s c (omega arith) in
      let same : b⁺ s c ≡ B⁺ s = omega (arith, best, rank_red s c red, B_ranked some) in
      ap₂ ◌and◌ (with_red s c red)
      (ap₂ eqℤ (b_raised c ∙ ap (λ (x : ℕ). sub_ℕ x (halves s)) same) B_raised ∙ eqℤ_refl (sub_ℕ (B⁺ s) (halves s)))

  -- the first candidate that attains the greatest rank is the reference
  pub reference_is : (c : ℕ) → c < s.signals → rank s c ≡ max_below s.signals (rank s) → ((k : ℕ) → k < c → rank s k < max_below s.signals (rank s)) → c ≡ reference s
  unfolding reference
  reference_is c l best before = go (dec_lt 0 (max_below s.signals (rank s)))
    where
      at_start : Dec (0 < c) → (0 < max_below s.signals (rank s) → ⊥) → c ≡ 0
      at_start (yes m) none = absurd (none (omega (arith, before 0 m)))
      at_start (no m) none = omega arith

      go : Dec (0 < max_below s.signals (rank s)) → c ≡ index_of (first_below s.signals attains)
      go (yes some) = sym (ap index_of (first_at s.signals attains c l (λ k m. passed_over k (before k m)) (taken c best some)))
      go (no none) =
          let first : c ≡ 0 = at_start (dec_lt 0 c) none in
          let rest = (none_ranked none).1 in
          first ∙ sym (ap index_of (first_nowhere s.signals attains (λ k m. ap (λ t. t and eqℤ (b s k) (B s)) (at_rest s k (rest k m)))))
