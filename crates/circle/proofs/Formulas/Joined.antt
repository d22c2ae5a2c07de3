-- A street with resting signals is the street without them (02, 2026-05). Take signals that rest out of it, some or all, and join the links beside each, so that their times add
-- up. What the method and a request say of the signals that are kept stays: it goes by the signals with a red, and by times only as differences between two signals. So u, b, B, g
-- and the widths are equal; and where some signal has a red the reference is the same one, and so are phases, offsets and lowerings. Assumes nothing.
use Prim.Native.Nat.{ℕ, ◌+◌, ◌-◌, ◌*◌, ◌≤◌, ◌<◌}
use mathlib.Core.Path.{◌≡◌, sym, ap, subst, ◌∙◌}
use native.Mathlib.Omega.{arith}
use native.Mathlib.Decide.{dec_lt}
use lib.IntN.{pos, ◌-ℤ◌}
use Rattle.circle.specs.Method.{Timed, halves, t, t', u, pair_width, b, B, reference, phase, offset, equal_width}
use Rattle.circle.specs.Moved.{g, in_range, chosen, outbound_lowering, inbound_lowering, lowered, other_width, found_width, platoon_width}
use Rattle.circle.proofs.Numbers.Signed.{sub_eq, pos_minus}
use Rattle.circle.proofs.Numbers.Over.{min_below, min_le, min_at, min_from, max_below, max_ge, max_to}
use Rattle.circle.proofs.Formulas.Raised.{Fit, limit, limit_rest, b⁺, b_raised, rank, rank_rest, B_raised, reference_is}
use Rattle.circle.proofs.Formulas.Reference.{reference-first, reference_red}
use Rattle.circle.proofs.Formulas.Moving.{g_is}

-- z is the street s without some of the signals that rest: z's signal k is s's signal `at k`, in s's order and with its red, and every signal with a red is kept. Times add up, so that
-- in s each is longer by those between its first signal and the first one kept, `out` outbound and `back` inbound
pub record JoinedAt (s z : Timed) (at : ℕ → ℕ) : Type 0 where
  pub cycle : s.cycle ≡ z.cycle
  pub some : 1 ≤ z.signals
  pub below : (k : ℕ) → k < z.signals → at k < s.signals
  pub rising : (i k : ℕ) → i < k → k < z.signals → at i < at k
  pub every : (j : ℕ) → j < s.signals → 0 < s.red j → (k : ℕ) × (k < z.signals) × (at k ≡ j)
  pub red : (k : ℕ) → k < z.signals → z.red k ≡ s.red (at k)
  pub out : ℕ
  pub outbound : (k : ℕ) → k < z.signals → s.outbound (at k) ≡ z.outbound k + out
  pub back : ℕ
  pub inbound : (k : ℕ) → k < z.signals → s.inbound (at k) ≡ z.inbound k + back

-- two times that are both longer by d have the same difference
both : (d x y x' y' : ℕ) → x' ≡ x + d → y' ≡ y + d → pos x -ℤ pos y ≡ pos x' -ℤ pos y'
both d x y x' y' ex ey = pos_minus x y ∙ sub_eq x y x' y' (omega arith) ∙ sym (pos_minus x' y')

module _ {s z : Timed} {at : ℕ → ℕ} (joined : JoinedAt s z at) where
  -- what holds of each signal that is kept and of each that rests holds of all
  pub kept_or_rests : (P : ℕ → Type 0) → ((k : ℕ) → k < z.signals → P (at k)) → ((j : ℕ) → (0 < s.red j → ⊥) → P j) → (j : ℕ) → j < s.signals → P j
  kept_or_rests P kept rests j l = go (dec_lt 0 (s.red j))
    where
      go : Dec (0 < s.red j) → P j
      go (yes red) = let (k, below, is) = joined.every j l red in subst P is (kept k below)
      go (no none) = rests j none

  -- the least over the signals of each street, where one that rests is no limit
  least : (a c : ℕ) (h f : ℕ → ℕ) → a ≡ c → ((k : ℕ) → k < z.signals → h k ≡ f (at k)) → ((j : ℕ) → (0 < s.red j → ⊥) → f j ≡ c) → min_below a z.signals h ≡ min_below c s.signals f
  least a c h f top same rests =
      let v = min_below a z.signals h in
      let w = min_below c s.signals f in
      let most = min_le a z.signals h in
      let less = min_from c s.signals f v (omega arith) (kept_or_rests (λ j. v ≤ f j) (λ k l. omega (arith, same k l, min_at a z.signals h k l)) (λ j none. omega (arith, rests j none))) in
      let more = min_from a z.signals h w (omega (arith, min_le c s.signals f)) (λ k l. omega (arith, same k l, min_at c s.signals f (at k) (joined.below k l))) in
      omega arith

  -- the times between two signals kept, and so u
  module _ (i j : ℕ) (li : i < z.signals) (lj : j < z.signals) where
    times : (t z i j ≡ t s (at i) (at j)) × (t' z i j ≡ t' s (at i) (at j))
    times = (
      both joined.out (z.outbound j) (z.outbound i) (s.outbound (at j)) (s.outbound (at i)) (joined.outbound j lj) (joined.outbound i li),
      both joined.back (z.inbound i) (z.inbound j) (s.inbound (at i)) (s.inbound (at j)) (joined.inbound i li) (joined.inbound j lj),
    )

    pub u_joined : (e : ℕ) → u z i j e ≡ u s (at i) (at j) e
    unfolding u
    u_joined e = cc (joined.cycle, joined.red i li, joined.red j lj, times.0, times.1)

  b⁺_joined : (i : ℕ) → i < z.signals → b⁺ z i ≡ b⁺ s (at i)
  unfolding b⁺
  b⁺_joined i l =
      least (4 * z.cycle) (4 * s.cycle) (limit z i) (limit s (at i)) (omega (arith, joined.cycle))
      (λ j m. cc (joined.cycle, joined.red j m, u_joined i j l m 0, u_joined i j l m z.cycle))
      (limit_rest s (at i))

  rank_joined : (i : ℕ) → i < z.signals → rank z i ≡ rank s (at i)
  rank_joined i l = cc (joined.red i l, b⁺_joined i l)

  best_joined : max_below z.signals (rank z) ≡ max_below s.signals (rank s)
  best_joined =
      let v = max_below z.signals (rank z) in
      let w = max_below s.signals (rank s) in
      let less = max_to z.signals (rank z) w (λ k l. omega (arith, rank_joined k l, max_ge s.signals (rank s) (at k) (joined.below k l))) in
      let more = max_to s.signals (rank s) v (kept_or_rests (λ j. rank s j ≤ v) (λ k l. omega (arith, rank_joined k l, max_ge z.signals (rank z) k l)) (λ j none. omega (arith, rank_rest s j none))) in
      omega arith

  module _ (fit : Fit s) where
    pub fit_joined : Fit z
    fit_joined =
        record { some = joined.some; turns = omega (arith, fit.turns, joined.cycle); goes = λ k l. omega (arith, joined.red k l, joined.cycle, fit.goes (at k) (joined.below k l)) }

    pub b_joined : (i : ℕ) → i < z.signals → b z i ≡ b s (at i)
    b_joined i l = cc (b_raised z fit_joined i, b_raised s fit (at i), b⁺_joined i l, joined.cycle)

    pub B_joined : B z ≡ B s
    B_joined = cc (B_raised z fit_joined, B_raised s fit, best_joined, joined.cycle)

    pub g_joined : g z ≡ g s
    g_joined =
        let green =
        least (halves z) (halves s) (λ k. halves z - 2 * z.red k) (λ j. halves s - 2 * s.red j) (omega (arith, joined.cycle))
        (λ k l. omega (arith, joined.cycle, joined.red k l))
        (λ j none. omega (arith, none)) in
        cc (g_is z fit_joined, g_is s fit)

    -- what goes by B and g alone
    pub widths_joined : (equal_width z ≡ equal_width s) × ((w : ℕ) → in_range z w ≡ in_range s w) × ((w : ℕ) → other_width z w ≡ other_width s w) × ((L T : ℕ) → platoon_width z L T ≡ platoon_width s L T)
    unfolding equal_width in_range other_width found_width platoon_width
    widths_joined = (cc B_joined, λ w. cc (B_joined, g_joined), λ w. cc B_joined, λ L T. cc (B_joined, g_joined))

    -- and by the reference, where some signal has a red: where none has, each street has its first signal for a reference, and these may differ
    module _ (live : ℕ) (in_range_lem : live < s.signals) (has-red : 0 < s.red live) where
      pub reference_joined : at (reference z) ≡ reference s
      reference_joined =
          let c = reference-first s fit in
          let (k, l, is) = joined.every (reference s) c.below (reference_red s fit live in_range_lem has-red).0 in
          let here =
          reference_is z fit_joined k l (omega (arith, rank_joined k l, ap (rank s) is, c.best, best_joined))
          (λ i m. omega (arith, rank_joined i (omega arith), c.before (at i) (omega (arith, joined.rising i k m l)), best_joined)) in
          ap at (sym here) ∙ is

      module _ (k : ℕ) (l : k < z.signals) where
        first : reference z < z.signals
        first = (reference-first z fit_joined).below

        pub phase_joined : phase z (reference z) k ≡ phase s (reference s) (at k)
        unfolding phase pair_width
        phase_joined = cc (joined.cycle, joined.red k l, reference_joined, u_joined (reference z) k first l 0, u_joined (reference z) k first l z.cycle)

        pub offset_joined : offset z (reference z) k ≡ offset s (reference s) (at k)
        unfolding offset
        offset_joined = cc (joined.cycle, reference_joined, phase_joined, (times (reference z) k first l).0, (times (reference z) k first l).1)

        chosen_joined : chosen z k ≡ chosen s (at k)
        unfolding chosen
        chosen_joined = cc (reference_joined, phase_joined, u_joined (reference z) k first l (phase z (reference z) k))

        pub lowerings_joined : (w : ℕ) → (outbound_lowering z w k ≡ outbound_lowering s w (at k)) × (inbound_lowering z w k ≡ inbound_lowering s w (at k))
        unfolding outbound_lowering inbound_lowering
        lowerings_joined w = (cc (joined.cycle, joined.red k l, chosen_joined, B_joined), cc (joined.red k l, chosen_joined))

        pub lowered_joined : (w : ℕ) → (lowered z (outbound_lowering z w) k ≡ lowered s (outbound_lowering s w) (at k)) × (lowered z (inbound_lowering z w) k ≡ lowered s (inbound_lowering s w) (at k))
        unfolding lowered
        lowered_joined w = (cc (joined.cycle, offset_joined, (lowerings_joined w).0), cc (joined.cycle, offset_joined, (lowerings_joined w).1))
