-- The search in naturals: a row's least is its candidate's b(i) raised, by which the candidate ranks where it has a red, and who leads after all candidates is the reference, with B.
-- Assumes nothing.
use Prim.Native.Nat.{ℕ, ◌+◌, ◌*◌, ◌≤◌, ◌<◌}
use mathlib.Core.Path.{◌≡◌, refl, sym, ap, ◌∙◌, subst}
use mathlib.Core.Bool.{Bool, true, false, cond}
use mathlib.Core.List.{List, []}
use native.Mathlib.Omega.{arith}
use native.Mathlib.Decide.{ℕ_discrete}
use lib.IntN.{pos, sub_ℕ}
use lib.ListN.{length, get_or, set, take}
use lib.Seq.{get_or-set_same, get_or-set_other}
use Rattle.std.proofs.lemmas.List.{get_or-take}
use Rattle.circle.specs.Over.{least_below}
use Rattle.circle.specs.Signed.{minℤ, or_zero}
use Rattle.circle.specs.Method.{Timed, halves, has_red}
use Rattle.circle.proofs.Numbers.{pos_minus, pos_sub, max_more, max_ge, least-raised, over_all}
use Rattle.circle.proofs.Numbers.Over.{max_below}
use Rattle.circle.proofs.Formulas.{Fit, limit, limit_le, rank, B⁺, B⁺_le, B_raised, reference_is}
use Rattle.circle.proofs.Formulas.Raised.{b⁺}
use Rattle.street.specs.Steps.{timed_with, Sound}
use Rattle.search.specs.Steps.{PairRow, wider, rank_of, settled_of, Reduced, Turning, Searched}
use Rattle.search.proofs.Pairs.{pair-limit, anchor_lt}

module _ (s : Timed) (fit : Fit s) where
  -- the least of a row of pairs is its candidate's b(i)
  least_is : (i : ℕ) (row : List (List ℕ)) → ((j : ℕ) → j < s.signals → wider row j ≡ limit s i j) → least_below s.signals (λ j. pos (wider row j)) ≡ pos (b⁺ s i)
  unfolding b⁺
  least_is i row ok =
      over_all minℤ (pos 0) (sub_ℕ (4 * s.cycle) 0) s.signals (λ j. pos (wider row j)) fit.some
      ∙ least-raised 0 (4 * s.cycle) s.signals (λ j. true) (λ j. pos (wider row j)) (limit s i) (limit_le s fit i)
      (λ j l. ap pos (ok j l) ∙ pos_sub (limit s i j))
      ∙ sym (pos_sub (b⁺ s i))

  -- so its candidate ranks by it
  rank_is : (i : ℕ) (row : List (List ℕ)) (r : ℕ) → ((j : ℕ) → j < s.signals → wider row j ≡ limit s i j) → pos r ≡ rank_of s.signals row (s.red i) → r ≡ rank s i
  rank_is i row r ok e = ap or_zero (e ∙ go (has_red s i))
    where
      go : (t : Bool) → cond t (least_below s.signals (λ j. pos (wider row j))) (pos 0) ≡ pos (cond t (b⁺ s i) 0)
      go true = least_is i row ok
      go false = refl

-- after k candidates: the first of them with the greatest number, and that number
pub record Leading (g : ℕ → ℕ) (k signal most : ℕ) : Type 0 where
  pub among : signal < k
  pub greatest : most ≡ max_below k g
  pub attains : g signal ≡ most
  pub before : (q : ℕ) → q < signal → g q < most

pub leads_first : (g : ℕ → ℕ) (x : ℕ) → x ≡ g 0 → Leading g 1 0 x
unfolding max_below
leads_first g x e =
    record { among = omega arith; greatest = omega arith; attains = sym e; before = λ q l. absurd (omega arith) }

-- a greater one takes the lead
pub leads_new : (g : ℕ → ℕ) (k signal most x : ℕ) → Leading g k signal most → most < x → x ≡ g k → Leading g (k + 1) k x
leads_new g k signal most x lead l e =
    record {
      among = omega arith;
      greatest = let more = max_more k g in omega (arith, lead.greatest);
      attains = sym e;
      before = λ q m. let below = max_ge k g q m in omega (arith, lead.greatest);
    }

-- and one that is not leaves it
pub leads_still : (g : ℕ → ℕ) (k signal most x : ℕ) → Leading g k signal most → x ≤ most → x ≡ g k → Leading g (k + 1) signal most
leads_still g k signal most x lead l e =
    record {
      among = let m = lead.among in omega arith;
      greatest = let more = max_more k g in omega (arith, lead.greatest);
      attains = lead.attains;
      before = lead.before;
    }

-- a property of a row of the table of widths, once the row i is another
pub row_set : (P : ℕ → List (List ℕ) → Type 0) (widths : List (List (List ℕ))) (i : ℕ) (row : List (List ℕ)) (q : ℕ) →
    i < length widths → P i row → ((q ≡ i → ⊥) → P q (get_or widths q [])) → P q (get_or (set widths i row) q [])
row_set P widths i row q l here other = go (ℕ_discrete q i)
  where
    go : Dec (q ≡ i) → P q (get_or (set widths i row) q [])
    go (yes e) =
        subst (λ (k : ℕ). P k (get_or (set widths i row) k [])) (sym e) (subst (P i) (sym (get_or-set_same widths i row [] l)) here)
    go (no n) = subst (P q) (sym (get_or-set_other widths i q row [] n)) (other n)

pub fit_sound : (s : Timed) → Sound s → Fit s
fit_sound s ok = record { some = ok.some; turns = omega (arith, ok.shortest); goes = ok.goes }

-- a sound street's anchors lie on the cycle
pub turning : (cycle n : ℕ) (reds x : List ℕ) (out back : ℕ → ℕ) → Sound (timed_with cycle n reds out back) → Reduced (timed_with cycle n reds out back) x → Turning cycle n reds x
turning cycle n reds x out back ok anchors =
    record { goes = ok.goes; on = λ k l. anchor_lt (timed_with cycle n reds out back) x k anchors l (omega (arith, ok.shortest)) }

-- and a candidate ranks by its row
pub candidate_is : (cycle n : ℕ) (reds x : List ℕ) (out back : ℕ → ℕ) (i : ℕ) (row : List (List ℕ)) (r : ℕ) →
    Sound (timed_with cycle n reds out back) → Reduced (timed_with cycle n reds out back) x → i < n →
    PairRow cycle n reds x i row → pos r ≡ rank_of n row (get_or reds i 0) → r ≡ rank (timed_with cycle n reds out back) i
candidate_is cycle n reds x out back i row r ok anchors l filled e =
    let s = timed_with cycle n reds out back in
    let turns : 0 < cycle = omega (arith, ok.shortest) in
    rank_is s (fit_sound s ok) i row r
    (λ j h.
    pair-limit s i j (get_or x i 0) (get_or x j 0) (get_or row j []) turns (ok.goes j h) (anchors.each i l) (anchors.each j h) (filled.each j h))
    e

-- or by the first n entries of a longer one
pub candidate_front : (cycle n : ℕ) (reds x : List ℕ) (out back : ℕ → ℕ) (i : ℕ) (row : List (List ℕ)) (r : ℕ) →
    Sound (timed_with cycle n reds out back) → Reduced (timed_with cycle n reds out back) x → i < n → length (take n row) ≡ n →
    PairRow cycle n reds x i row → pos r ≡ rank_of (length (take n row)) (take n row) (get_or reds i 0) → r ≡ rank (timed_with cycle n reds out back) i
candidate_front cycle n reds x out back i row r ok anchors l all filled e =
    candidate_is cycle n reds x out back i (take n row) r ok anchors l
    (record { each = λ j h. get_or-take n row j [] h ∙ filled.each j h })
    (e ∙ ap (λ (k : ℕ). rank_of k (take n row) (get_or reds i 0)) all)

-- who leads after all candidates is the reference, with B
pub leader_is : (s : Timed) → Fit s → (k signal most raised : ℕ) → k ≡ s.signals → Leading (rank s) k signal most → raised ≡ settled_of s.cycle most → Searched s (record { signal = signal; raised = raised })
leader_is s fit k signal most raised all lead is =
    let greatest : most ≡ max_below s.signals (rank s) = lead.greatest ∙ ap (λ (n : ℕ). max_below n (rank s)) all in
    let whole : raised ≡ B⁺ s = is ∙ ap (settled_of s.cycle) greatest in
    record {
      found =
          reference_is s fit signal (omega (arith, lead.among)) (lead.attains ∙ greatest)
          (λ q l. omega (arith, lead.before q l, greatest));
      width = pos_minus raised (halves s) ∙ ap (λ (x : ℕ). sub_ℕ x (halves s)) whole ∙ sym (B_raised s fit);
      small = omega (arith, whole, B⁺_le s fit);
    }
