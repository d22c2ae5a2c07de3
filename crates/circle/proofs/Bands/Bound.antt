-- No offsets give two bands that together exceed 2B, and none two stretches of signed length that do. For a departure each way, let κ(j) be the time since j's red ended outbound plus the
-- time until it starts again inbound. Round the cycle κ(j) - κ(i) is twice u's argument for the pair, so under one of the two phases u(i,j) is H less half that difference. Where i has the
-- least κ of the signals with a red, every pair's width is then at least half of the two stretches. Where no signal has a red, B is the cycle, and no stretch is longer. Assumes nothing.
use Prim.Native.Nat.{ℕ, ◌+◌, ◌-◌, ◌*◌, ◌/◌, ◌%◌, ◌≤◌, ◌<◌}
use mathlib.Core.Path.{◌≡◌, ap, ap₂, ◌∙◌}
use mathlib.Core.Bool.{true}
use mathlib.Core.Logic.{◌⊎◌, inl, inr, ⊎_elim}
use native.Mathlib.Omega.{arith}
use native.Mathlib.Decide.{dec_lt}
use lib.IntN.{pos, ◌+ℤ◌}
use borrow.Author.Tests.{le-leb}
use Rattle.circle.specs.Signed.{leℤ}
use Rattle.circle.specs.Method.{Timed, halves, B, reference}
use Rattle.circle.specs.Bands.{outbound_way, inbound_way}
use Rattle.circle.proofs.Numbers.Signed.{sub_eq, pos_sub, add_sub, le_sub}
use Rattle.circle.proofs.Numbers.Man.{Turns}
use Rattle.circle.proofs.Numbers.Over.{max_ge}
use Rattle.circle.proofs.Numbers.Least.{Least, least_or_none}
use Rattle.circle.proofs.Formulas.Method.{u_is}
use Rattle.circle.proofs.Formulas.Raised.{Fit, raised, larger_raised, top, b⁺_from, b⁺_some, rank, rank_red, B⁺, B_ranked, B_raised}
use Rattle.circle.proofs.Formulas.Reference.{reference-first, reference_rests}
use Rattle.circle.proofs.Stretches.Arcs.{since, Passes, Spans, spans}
use Rattle.circle.proofs.Stretches.Since.{Rising, since_turns}

-- the difference of the two departures at one signal: the offset and the red cancel
both : (H a b σ x y A Q Qn : ℕ) → Q ≤ Qn → Turns H (a + σ) (x + 2 * A) → Turns H (b + σ) (y + 2 * (Qn - Q)) → Turns H (a + (y + 2 * Qn)) (b + (x + 2 * (A + Q)))
both H a b σ x y A Q Qn l c d =
    record { p = c.p + d.q; q = c.q + d.p; eq = omega (arith, c.eq, d.eq) }

-- half of an even difference, in turns of C, is a number in turns of 2C under one of the two phases
phased : (C k m n : ℕ) → Turns C (k + m) n → Turns (2 * C) (k + (m + 0)) n ⊎ Turns (2 * C) (k + (m + C)) n
phased C k m n c = go (dec_lt 0 ((c.p + c.q) % 2))
  where
    go : Dec (0 < (c.p + c.q) % 2) → Turns (2 * C) (k + (m + 0)) n ⊎ Turns (2 * C) (k + (m + C)) n
    go (yes l) =
        let e : c.p + c.q ≡ 2 * ((c.p + c.q) / 2) + 1 = omega arith in
        inr (record { p = (c.p + c.q) / 2; q = c.q; eq = omega (arith, c.eq, ap (λ (z : ℕ). z * C) e) })
    go (no l) =
        let e : c.p + c.q ≡ 2 * ((c.p + c.q) / 2) = omega arith in
        inl (record { p = (c.p + c.q) / 2; q = c.q; eq = omega (arith, c.eq, ap (λ (z : ℕ). z * C) e) })

-- one pair of signals: half the difference of their κ, round the cycle, is what u subtracts from H, and it leaves room for half of the two stretches, each of signed length, less what it lacks
pair :
    (C a b r y a' b' r' y' v v' lack lack' o x : ℕ) → b + v' + 2 * r ≤ 2 * C + lack' → b' + v' + 2 * r' ≤ 2 * C + lack' → a' + v + 2 * r' ≤ 2 * C + lack →
    a + (2 * C + lack' - (b + 2 * r)) ≤ a' + (2 * C + lack' - (b' + 2 * r')) → Turns (2 * C) (a + o) (b + (x + 2 * y)) → Turns (2 * C) (a' + o) (b' + (x + 2 * y')) →
    (k : ℕ) × (2 * k + 4 * r' + (v + v') ≤ 4 * C + (lack + lack')) × Turns C (k + (r' + y)) (r + y')
pair C a b r y a' b' r' y' v v' lack lack' o x l l' k least c d =
    let P : ℕ = r' + y + (d.p + c.q) * C in
    let Q : ℕ = r + y' + (d.q + c.p) * C in
    let order : a + b' + 2 * r' ≤ a' + b + 2 * r = omega arith in
    let twice : 2 * Q + (a + b' + 2 * r') ≡ a' + b + 2 * r + 2 * P = omega (arith, c.eq, d.eq) in
    (Q - P, omega arith, record { p = d.p + c.q; q = d.q + c.p; eq = omega arith })

-- κ(j): the time since j's red ended, outbound, and the time until it starts again, inbound, with what an inbound stretch lacks
κ : Timed → (ℕ → ℕ) → ℕ → ℕ → ℕ → ℕ → ℕ
κ s f x y lack' j = since (outbound_way s f) x j + (2 * s.cycle + lack' - (since (inbound_way s f) y j + 2 * s.red j))

module _ (s : Timed) (fit : Fit s) (rising : Rising s) (f : ℕ → ℕ) (x y v v' lack lack' : ℕ) (out : Spans (outbound_way s f) x v lack) (back : Spans (inbound_way s f) y v' lack') where
  apart : (j : ℕ) → j < s.signals → Turns (2 * s.cycle) (since (outbound_way s f) x j + (y + 2 * s.inbound (s.signals - 1))) (since (inbound_way s f) y j + (x + 2 * (s.outbound j + s.inbound j)))
  apart j l =
      let turns : 0 < 2 * s.cycle = omega (arith, fit.turns) in
      both (2 * s.cycle) _ _ _ x y (s.outbound j) (s.inbound j) (s.inbound (s.signals - 1)) (rising j l) (since_turns (outbound_way s f) x j turns) (since_turns (inbound_way s f) y j turns)

  -- what k leaves of the pair's width, under the phase that k belongs to
  wide :
      (i j e k : ℕ) → lack + lack' < v + v' + 4 * s.red j → 2 * k + 4 * s.red j + (v + v') ≤ 4 * s.cycle + (lack + lack') →
      Turns (2 * s.cycle) (k + (s.red j + s.outbound i + s.inbound i + e)) (s.red i + s.outbound j + s.inbound j) → v + v' + 2 * halves s ≤ 2 * raised s i j e + (lack + lack')
  wide i j e k some room turns =
      let same = u_is s i j e k (omega arith) turns in
      omega arith

  reaches : (i j : ℕ) → i < s.signals → j < s.signals → 0 < s.red i → 0 < s.red j → κ s f x y lack' i ≤ κ s f x y lack' j → v + v' + 2 * halves s ≤ 2 * larger_raised s i j + (lack + lack')
  unfolding κ
  reaches i j li lj ri rj least = go (dec_lt (lack + lack') (v + v' + 4 * s.red j))
    where
      go : Dec (lack + lack' < v + v' + 4 * s.red j) → v + v' + 2 * halves s ≤ 2 * larger_raised s i j + (lack + lack')
      -- two stretches that lack so much leave room whatever u is
      go (no little) = omega (arith, fit.goes j lj)
      go (yes some) =
          let α = since (outbound_way s f) x in
          let β = since (inbound_way s f) y in
          let k = pair s.cycle (α i) (β i) (s.red i) (s.outbound i + s.inbound i) (α j) (β j) (s.red j) (s.outbound j + s.inbound j) v v' lack lack' (y + 2 * s.inbound (s.signals - 1)) x (back.each i li (omega arith)) (back.each j lj (omega arith)) (out.each j lj (omega arith)) least (apart i li) (apart j lj) in
          ⊎_elim
          (λ c. let w = wide i j 0 k.0 some k.1 c in omega arith)
          (λ c. let w = wide i j s.cycle k.0 some k.1 c in omega arith)
          (phased s.cycle k.0 (s.red j + s.outbound i + s.inbound i) (s.red i + s.outbound j + s.inbound j)
          (record { p = k.2.p; q = k.2.q; eq = omega (arith, k.2.eq) }))

  -- the signal with the least κ of those with a red has every pair that it forms with one of them at least half as wide as the two stretches
  reached : Least s.signals s.red (κ s f x y lack') → v + v' + 2 * halves s ≤ 2 * B⁺ s + (lack + lack')
  reached i =
      let c = i.at in
      let half = (v + v' + 2 * halves s - (lack + lack') + 1) / 2 in
      let each : (j : ℕ) → j < s.signals → 0 < s.red j → half ≤ larger_raised s c j = λ j l r. omega (arith, reaches c j i.below l i.counts r (i.least j l r)) in
      let least = b⁺_from s c half (omega (arith, each c i.below i.counts, top s fit c c i.below)) each in
      let ranks = rank_red s c i.counts in
      let most = max_ge s.signals (rank s) c i.below in
      omega (arith, B_ranked s fit (omega (arith, b⁺_some s fit c)))

-- any two stretches, one each way and under any offsets, v and v' long less what they lack: together at most 2B, raised by two cycles
abbrev pub Bounded : Timed → Type 0
Bounded s =
    (f : ℕ → ℕ) (x y v v' lack lack' : ℕ) → Spans (outbound_way s f) x v lack → Spans (inbound_way s f) y v' lack' → v + v' + 2 * halves s ≤ 2 * B⁺ s + (lack + lack')

pub bound : (s : Timed) → Fit s → Rising s → Bounded s
bound s fit rising f x y v v' lack lack' out back =
    ⊎_elim (reached s fit rising f x y v v' lack lack' out back)
    (λ none. omega (arith, (reference_rests s fit (none (reference s) (reference-first s fit).below)).0, out.most, back.most))
    (least_or_none s.signals s.red (κ s f x y lack'))

pub bound_signed : (s : Timed) → Fit s → Bounded s → (f : ℕ → ℕ) (x y v v' : ℕ) → Passes (outbound_way s f) x v → Passes (inbound_way s f) y v' → leℤ (pos (v + v')) (B s +ℤ B s) ≡ true
bound_signed s fit two f x y v v' out back =
    let Bp = B⁺ s in
    let H = halves s in
    let most : v + v' + 2 * H ≤ Bp + Bp = omega (arith, two f x y v v' 0 0 (spans out) (spans back)) in
    ap₂ leℤ
    (pos_sub (v + v') ∙ sub_eq (v + v') 0 (v + v' + 2 * H) (H + H) (omega arith))
    (ap₂ ◌+ℤ◌ (B_raised s fit) (B_raised s fit) ∙ add_sub Bp H Bp H)
    ∙ le_sub (v + v' + 2 * H) (Bp + Bp) (H + H)
    ∙ le-leb (v + v' + 2 * H) (Bp + Bp) most
