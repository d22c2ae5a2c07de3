-- Scale: a street counted in N times finer units has B and what is left beside a width N times as large, and what passes in the coarse unit passes in the fine one. Each remainder is
-- settled by uniqueness: N times a number in range is in range, and N times an equation of turns is one. Assumes nothing.
use Prim.Native.Nat.{ℕ, zero, suc, ◌+◌, ◌-◌, ◌*◌, ◌≤◌, ◌<◌, min, max}
use mathlib.Core.Path.{◌≡◌, refl, sym, ap, ap₂, subst, ◌∙◌}
use mathlib.Core.Bool.{Bool, true, false, cond}
use native.Mathlib.Omega.{arith}
use native.Mathlib.Decide.{dec_le}
use native.Mathlib.Nat.{mul-le-mul_left, mul-lt-mul_of_pos_left, mul-sub, mul-zero}
use lib.IntN.{pos, ◌-ℤ◌}
use lib.Dec.{ltb}
use borrow.Author.Tests.{lt-ltb}
use Rattle.circle.specs.Man.{man}
use Rattle.circle.specs.Method.{Timed, halves, has_red, u, red_start}
use Rattle.circle.specs.Bands.{Way, outbound_way, inbound_way}
use Rattle.circle.specs.Moved.{other_width}
use Rattle.circle.proofs.Numbers.Man.{Turns, man_lt, man_is, man_turns}
use Rattle.circle.proofs.Numbers.Over.{min_below, max_below}
use Rattle.circle.proofs.Formulas.Method.{u_is, u_range}
use Rattle.circle.proofs.Formulas.Raised.{Fit, raised, larger_raised, limit, b⁺, rank, low, B⁺}
use Rattle.circle.proofs.Stretches.Arcs.{since, Passes, Spans, spans}
use Rattle.circle.proofs.Stretches.Since.{along, Rising, since_turns, since_le}
use Rattle.circle.proofs.Formulas.Reference.{u_turns}
use Rattle.circle.proofs.Formulas.Moving.{other_width_lem}
pub use Rattle.circle.specs.Method.{in_units as scaled}

-- turns in the finer unit
turns_scaled : (N M a b : ℕ) → Turns M a b → Turns (N * M) (N * a) (N * b)
turns_scaled N M a b c = record { p = c.p; q = c.q; eq = omega (arith, ap (λ (z : ℕ). N * z) c.eq) }

pub man_scaled : (N M a b : ℕ) → 0 < N → 0 < M → man (N * M) (pos (N * a) -ℤ pos (N * b)) ≡ N * man M (pos a -ℤ pos b)
man_scaled N M a b n h =
    let z = man M (pos a -ℤ pos b) in
    let c = turns_scaled N M (z + b) a (man_turns M a b h) in
    man_is (N * M) (N * a) (N * b) (N * z) (mul-lt-mul_of_pos_left (man_lt M (pos a -ℤ pos b) h) n)
    (record { p = c.p; q = c.q; eq = omega (arith, c.eq) })

min_scaled : (N a b : ℕ) → min (N * a) (N * b) ≡ N * min a b
min_scaled N a b = go (dec_le a b)
  where
    go : Dec (a ≤ b) → min (N * a) (N * b) ≡ N * min a b
    go (yes l) = let e : min a b ≡ a = omega arith in omega (arith, ap (λ (z : ℕ). N * z) e, mul-le-mul_left N l)
    go (no l) =
        let m : b ≤ a = omega arith in
        let e : min a b ≡ b = omega arith in
        omega (arith, ap (λ (z : ℕ). N * z) e, mul-le-mul_left N m)

max_scaled : (N a b : ℕ) → max (N * a) (N * b) ≡ N * max a b
max_scaled N a b =
    let e : max a b + min a b ≡ a + b = omega arith in
    omega (arith, ap (λ (z : ℕ). N * z) e, min_scaled N a b)

min_below_scaled : (N top n : ℕ) (f g : ℕ → ℕ) → ((k : ℕ) → k < n → f k ≡ N * g k) → min_below (N * top) n f ≡ N * min_below top n g
unfolding min_below
min_below_scaled N top zero f g e = refl
min_below_scaled N top (suc n) f g e =
    ap₂ min (min_below_scaled N top n f g (λ k l. e k (omega arith))) (e n (omega arith))
    ∙ min_scaled N (min_below top n g) (g n)

max_below_scaled : (N n : ℕ) (f g : ℕ → ℕ) → ((k : ℕ) → k < n → f k ≡ N * g k) → max_below n f ≡ N * max_below n g
unfolding max_below
max_below_scaled N zero f g e = omega arith
max_below_scaled N (suc n) f g e =
    ap₂ max (max_below_scaled N n f g (λ k l. e k (omega arith))) (e n (omega arith))
    ∙ max_scaled N (max_below n g) (g n)

-- a choice between two numbers, by one test
cond_scaled : (N : ℕ) (p q : Bool) (a b c d : ℕ) → p ≡ q → a ≡ N * c → b ≡ N * d → cond p a b ≡ N * cond q c d
cond_scaled N p q a b c d same first second = ap (λ t. cond t a b) same ∙ go q
  where
    go : (t : Bool) → cond t a b ≡ N * cond t c d
    go true = first
    go false = second

-- N times a number is one where the number is
some_scaled : (N : ℕ) → 0 < N → (k : ℕ) → ltb 0 (N * k) ≡ ltb 0 k
some_scaled N fine zero = ap (ltb 0) (mul-zero N)
some_scaled N fine (suc k) = lt-ltb 0 (N * suc k) (omega (arith, mul-le-mul_left N (le_one k))) ∙ sym (lt-ltb 0 (suc k) (omega arith))
  where
    le_one : (k : ℕ) → 1 ≤ suc k
    le_one k = omega arith

module _ (N : ℕ) (s : Timed) (fine : 0 < N) (fit : Fit s) where
  pub u_scaled : (i j e : ℕ) → u (scaled N s) i j (N * e) ≡ N * u s i j e
  u_scaled i j e =
      let some : 0 < s.cycle = fit.turns in
      let around : 0 < 2 * s.cycle = omega arith in
      let range = u_range s i j e some in
      let z : ℕ = halves s - u s i j e in
      let whole : z + u s i j e ≡ halves s = omega arith in
      let less : z < halves s = omega arith in
      let c = u_turns s i j e around in
      let d = turns_scaled N (halves s) (z + (s.red j + s.outbound i + s.inbound i + e)) (s.red i + s.outbound j + s.inbound j) c in
      let e' : Turns (halves (scaled N s)) (N * z + (N * s.red j + N * s.outbound i + N * s.inbound i + N * e)) (N * s.red i + N * s.outbound j + N * s.inbound j) = record { p = d.p; q = d.q; eq = omega (arith, d.eq) } in
      let same = u_is (scaled N s) i j (N * e) (N * z) (omega (arith, mul-lt-mul_of_pos_left less fine)) e' in
      omega (arith, same, ap (λ (y : ℕ). N * y) whole)

  pub fit_scaled : Fit (scaled N s)
  fit_scaled =
      record {
        some = fit.some;
        turns = omega (arith, mul-le-mul_left N fit.turns);
        goes = λ k l. mul-lt-mul_of_pos_left (fit.goes k l) fine;
      }

  red_scaled : (j : ℕ) → has_red (scaled N s) j ≡ has_red s j
  red_scaled j = some_scaled N fine (s.red j)

  pub rising_scaled : Rising s → Rising (scaled N s)
  rising_scaled rising j l = mul-le-mul_left N (rising j l)

  raised_scaled : (i j e : ℕ) → j < s.signals → raised (scaled N s) i j (N * e) ≡ N * raised s i j e
  raised_scaled i j e l =
      let room = low s fit j l in
      let rest : halves s - 2 * s.red j + 2 * s.red j ≡ halves s = omega arith in
      omega (arith, u_scaled i j e, ap (λ (y : ℕ). N * y) rest)

  larger_scaled : (i j : ℕ) → j < s.signals → larger_raised (scaled N s) i j ≡ N * larger_raised s i j
  larger_scaled i j l =
      let none : 0 ≡ N * 0 = omega arith in
      ap₂ max (ap (raised (scaled N s) i j) none ∙ raised_scaled i j 0 l) (raised_scaled i j s.cycle l)
      ∙ max_scaled N (raised s i j 0) (raised s i j s.cycle)

  turn : 4 * (N * s.cycle) ≡ N * (4 * s.cycle)
  turn = omega arith

  -- b(i) and B, raised by the cycle in each unit
  b⁺_scaled : (i : ℕ) → b⁺ (scaled N s) i ≡ N * b⁺ s i
  unfolding b⁺
  b⁺_scaled i =
      ap (λ (x : ℕ). min_below x s.signals (limit (scaled N s) i)) turn
      ∙ min_below_scaled N (4 * s.cycle) s.signals (limit (scaled N s) i) (limit s i)
      (λ j l. cond_scaled N (has_red (scaled N s) j) (has_red s j) (larger_raised (scaled N s) i j) (4 * (N * s.cycle)) (larger_raised s i j) (4 * s.cycle) (red_scaled j) (larger_scaled i j l) turn)

  rank_scaled : (i : ℕ) → rank (scaled N s) i ≡ N * rank s i
  rank_scaled i = cond_scaled N (has_red (scaled N s) i) (has_red s i) (b⁺ (scaled N s) i) 0 (b⁺ s i) 0 (red_scaled i) (b⁺_scaled i) (omega arith)

  pub B⁺_scaled : B⁺ (scaled N s) ≡ N * B⁺ s
  B⁺_scaled =
      let most = max_below s.signals (rank s) in
      let is = max_below_scaled N s.signals (rank (scaled N s)) (rank s) (λ k l. rank_scaled k) in
      cond_scaled N (ltb 0 (max_below s.signals (rank (scaled N s)))) (ltb 0 most) (max_below s.signals (rank (scaled N s))) (4 * (N * s.cycle)) most (4 * s.cycle)
      (ap (ltb 0) is ∙ some_scaled N fine most) is turn

  -- what the other direction is left
  pub other_scaled : (w : ℕ) → other_width (scaled N s) (N * w) ≡ N * other_width s w
  other_scaled w =
      let all : 2 * (2 * (N * s.cycle)) + N * w ≡ N * (2 * halves s + w) = omega arith in
      let twice : 2 * (N * B⁺ s) ≡ N * (2 * B⁺ s) = omega arith in
      other_width_lem (scaled N s) fit_scaled (N * w)
      ∙ ap₂ ◌-◌ (ap (λ (x : ℕ). 2 * x) B⁺_scaled ∙ twice) all
      ∙ sym (mul-sub N (2 * B⁺ s) (2 * halves s + w))
      ∙ ap (λ (x : ℕ). N * x) (sym (other_width_lem s fit w))

-- a way in N times finer units
pub record Finer (N : ℕ) (w z : Way) : Type 0 where
  pub around : z.around ≡ N * w.around
  pub signals : z.signals ≡ w.signals
  pub start : (j : ℕ) → j < w.signals → z.start j ≡ N * w.start j
  pub length : (j : ℕ) → j < w.signals → z.length j ≡ N * w.length j
  pub lag : (j : ℕ) → j < w.signals → z.lag j ≡ N * w.lag j

-- a stretch in the coarse unit, of signed length too, is one in the fine unit
module _ (N : ℕ) (w z : Way) (same : Finer N w z) (turns : 0 < z.around) where
  some : (k : ℕ) → 0 < N * k → 0 < k
  some zero l = absurd (omega arith)
  some (suc k) l = omega arith

  pub finer_spans : (x v lack : ℕ) → Spans w x v lack → Spans z (N * x) (N * v) (N * lack)
  finer_spans x v lack stretch =
      record {
        most = omega (arith, same.around, mul-le-mul_left N stretch.most);
        each =
            λ j h r.
            let l : j < w.signals = omega (arith, same.signals) in
            let room = stretch.each j l (some (w.length j) (omega (arith, same.length j l))) in
            let g : ℕ = since w x j in
            let c = turns_scaled N w.around (g + (w.start j + w.length j)) (x + w.lag j) (since_turns w x j (some w.around (omega (arith, same.around)))) in
            let e : Turns (N * w.around) (N * g + (z.start j + z.length j)) (N * x + z.lag j) = record { p = c.p; q = c.q; eq = omega (arith, c.eq, same.start j l, same.length j l, same.lag j l) } in
            let most = since_le z (N * x) j (N * g) turns (subst (λ M. Turns M (N * g + (z.start j + z.length j)) (N * x + z.lag j)) (sym same.around) e) in
            omega (arith, same.around, same.length j l, mul-le-mul_left N room);
      }

  pub finer_passes : (x k : ℕ) → Passes w x k → Passes z (N * x) (N * k)
  finer_passes x k passes =
      record {
        most = omega (arith, same.around, mul-le-mul_left N passes.most);
        each = λ j h r. omega (arith, (finer_spans x k 0 (spans passes)).each j h r);
      }

-- the ways of a street in finer units, its offsets too: under any lags that scale, so in both directions
module _ (N : ℕ) (s : Timed) (f : ℕ → ℕ) (fine : 0 < N) (turns : 0 < s.cycle) where
  start_scaled : (j : ℕ) → red_start (scaled N s) j (N * f j) ≡ N * red_start s j (f j)
  unfolding red_start
  start_scaled j =
      let turn : 2 * (N * s.cycle) ≡ N * (2 * s.cycle) = omega arith in
      ap (λ (M : ℕ). man M (pos (N * f j) -ℤ pos (N * s.red j))) turn
      ∙ man_scaled N (2 * s.cycle) (f j) (s.red j) fine (omega arith)

  street_finer : (lag lag' : ℕ → ℕ) → ((j : ℕ) → lag' j ≡ N * lag j) → Finer N (along (outbound_way s f) lag) (along (outbound_way (scaled N s) (λ j. N * f j)) lag')
  street_finer lag lag' e =
      record {
        around = omega arith;
        signals = refl;
        start = λ j l. start_scaled j;
        length = λ j l. omega arith;
        lag = λ j l. e j;
      }

  pub outbound_finer : Finer N (outbound_way s f) (outbound_way (scaled N s) (λ j. N * f j))
  outbound_finer = street_finer (outbound_way s f).lag (outbound_way (scaled N s) f).lag (λ j. omega arith)

  pub inbound_finer : Finer N (inbound_way s f) (inbound_way (scaled N s) (λ j. N * f j))
  inbound_finer =
      street_finer (inbound_way s f).lag (inbound_way (scaled N s) f).lag
      (λ j. omega (arith, mul-sub N (s.inbound (s.signals - 1)) (s.inbound j)))
