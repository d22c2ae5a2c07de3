-- Laws of the search over plain numbers. Seen from where a direction departs a street has its red ends as candidates, and what each red leaves of the cycle is what the code
-- computes; the least of these is the longest stretch from an instant, and the wider of two bands is the better candidate. A red of no length leaves all of the cycle, and is
-- no candidate. Assumes nothing.
use Prim.Native.Nat.{ℕ, zero, suc, ◌+◌, ◌-◌, ◌*◌, ◌≤◌, ◌<◌}
use mathlib.Core.Path.{◌≡◌, refl, sym, ap, ap₂, ◌∙◌, subst}
use mathlib.Core.Bool.{cond}
use mathlib.Core.List.{List}
use native.Mathlib.Omega.{arith}
use native.Mathlib.Decide.{dec_lt}
use lib.IntN.{pos, ◌-ℤ◌}
use lib.ListN.{get_or}
use lib.Dec.{ltb}
use borrow.Author.Tests.{lt-ltb}
use Rattle.circle.specs.Man.{man}
use Rattle.circle.specs.Bands.{Way}
use Rattle.circle.proofs.Numbers.{man_is, man_turns}
use Rattle.circle.proofs.Stretches.{since, Proper, longest, left, end_at, since_end, from, Best, NoWorse, best_none, best_more, best_band}
use Rattle.std.proofs.lemmas.Grind.{common_steps}
use Rattle.stretches.specs.declared.Band.{Band}
use Rattle.stretches.specs.Stretches.{band_of}
use Rattle.stretches.specs.Steps.{Fitting, seen_by, left_by, wider_of}

-- the wider of two bands, by how their widths and their starts compare
wider_other : (a b : Band) → a.width < b.width → b ≡ wider_of a b
unfolding wider_of
wider_other a b l = grind (arith, common_steps)

wider_best : (a b : Band) → b.width < a.width → a ≡ wider_of a b
unfolding wider_of
wider_best a b l = grind (arith, common_steps)

wider_sooner : (a b : Band) → b.width ≤ a.width → a.width ≤ b.width → b.start < a.start → b ≡ wider_of a b
unfolding wider_of
wider_sooner a b le ge l = grind (arith, common_steps)

wider_still : (a b : Band) → b.width ≤ a.width → a.width ≤ b.width → a.start ≤ b.start → a ≡ wider_of a b
unfolding wider_of
wider_still a b le ge l = grind (arith, common_steps)

-- a band is the best of the stretch from 0 and of those from the candidates below n that have a red
abbrev pub BestBand : Way → ℕ → Band → Type 0
BestBand w n b = Best w n b.width b.start

-- the best so far, and the stretch from the candidate at i: the wider of both
best_wider : (w : Way) (i : ℕ) (a b : Band) → BestBand w i a → b.start < w.around → b.width ≡ from w i → b.start ≡ end_at w i → BestBand w (i + 1) (wider_of a b)
best_wider w i a b best below wide starts = go (dec_lt a.width b.width) (dec_lt b.width a.width) (dec_lt b.start a.start)
  where
    kept : (c : Band) → c ≡ wider_of a b → c.start < w.around → longest w c.start ≡ c.width → NoWorse c.width c.start a.width a.start → NoWorse c.width c.start b.width b.start → BestBand w (i + 1) (wider_of a b)
    kept c e on as_long than-a than-b =
        subst (BestBand w (i + 1)) e
        (best_more w i a.width a.start c.width c.start best on as_long than-a
        (λ red. (omega (arith, than-b.0), λ same. omega (arith, than-b.1 (omega arith)))))

    old : a ≡ wider_of a b → NoWorse a.width a.start b.width b.start → BestBand w (i + 1) (wider_of a b)
    old e than-b = kept a e best.below best.as_long (omega arith, λ s. omega arith) than-b

    new : b ≡ wider_of a b → NoWorse b.width b.start a.width a.start → BestBand w (i + 1) (wider_of a b)
    new e than-a = kept b e below (ap (longest w) starts ∙ sym wide) than-a (omega arith, λ s. omega arith)

    go : Dec (a.width < b.width) → Dec (b.width < a.width) → Dec (b.start < a.start) → BestBand w (i + 1) (wider_of a b)
    go (yes l) q r = new (wider_other a b l) (omega arith, λ e. omega arith)
    go (no l) (yes m) r = old (wider_best a b m) (omega arith, λ e. omega arith)
    go (no l) (no m) (yes r) = new (wider_sooner a b (omega arith) (omega arith) r) (omega arith, λ e. omega arith)
    go (no l) (no m) (no r) = old (wider_still a b (omega arith) (omega arith) (omega arith)) (omega arith, λ e. omega arith)

-- a red has a length in halves where it has one in ticks
some_halves : (red : ℕ) → ltb 0 red ≡ ltb 0 (2 * red)
some_halves zero = refl
some_halves (suc red) = lt-ltb 0 (suc red) (omega arith) ∙ sym (lt-ltb 0 (2 * suc red) (omega arith))

module _ (h n : ℕ) (red : ℕ → ℕ) (ends : List ℕ) (ok : Fitting h n red ends) where
  pub proper_seen : Proper (seen_by h n red ends)
  proper_seen = record { turns = ok.turns; fits = λ j l. omega (arith, ok.goes j l) }

  -- the candidates are the given instants
  end_seen : (j : ℕ) → j < n → end_at (seen_by h n red ends) j ≡ get_or ends j 0
  end_seen j l =
      let r : ℕ = 2 * red j in
      let c = man_turns h (get_or ends j 0) r ok.turns in
      man_is h (man h (pos (get_or ends j 0) -ℤ pos r) + r) 0 (get_or ends j 0) (ok.each j l)
      (record { p = c.q; q = c.p; eq = omega (arith, c.eq) })

  -- what a red leaves is what the code computes
  pub left-seen : (x j : ℕ) → j < n → left_by h x (get_or ends j 0) (red j) ≡ left (seen_by h n red ends) x j
  left-seen x j l =
      let w = seen_by h n red ends in
      let is : since w x j ≡ man h (pos x -ℤ pos (get_or ends j 0)) =
      since_end w proper_seen x j ∙ ap (λ (e : ℕ). man h (pos x -ℤ pos e)) (end_seen j l) in
      ap₂ (λ t (z : ℕ). cond t (h - (w.length j + z)) h) (some_halves (red j)) (sym is)

  -- before any candidate the best is the stretch from 0
  pub none_seen : (v : ℕ) → v ≡ longest (seen_by h n red ends) 0 → BestBand (seen_by h n red ends) 0 (record { width = v; start = 0 })
  none_seen v is = let w = seen_by h n red ends in subst (λ (u : ℕ). Best w 0 u 0) (sym is) (best_none w proper_seen)

  -- a signal with a red: the wider of the best before i and of the stretch from the instant at i
  pub more-seen : (i width : ℕ) (a b : Band) → i < n → BestBand (seen_by h n red ends) i a → width ≡ longest (seen_by h n red ends) (get_or ends i 0) → b ≡ wider_of a (record { width = width; start = get_or ends i 0 }) → BestBand (seen_by h n red ends) (i + 1) b
  more-seen i width a b l best wide is =
      let w = seen_by h n red ends in
      let at = sym (end_seen i l) in
      subst (BestBand w (i + 1)) (sym is)
      (best_wider w i a (record { width = width; start = get_or ends i 0 }) best (ok.each i l) (wide ∙ ap (longest w) at) at)

  -- the best of all is the band
  pub best_seen : (b : Band) → BestBand (seen_by h n red ends) n b → b ≡ band_of (seen_by h n red ends)
  best_seen b best =
      let is = best_band (seen_by h n red ends) proper_seen b.width b.start best in
      λ i. record { width = is.wide i; start = is.starts i }
