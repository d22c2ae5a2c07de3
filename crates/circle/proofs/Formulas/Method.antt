-- Laws of the method's numbers. Each remainder in it is that of a difference of two sums of naturals, so a number in range that differs from the difference by whole
-- turns is u's or the offset's remainder; a pair's width is a natural once it is raised by the cycle. And the numbers go by the signals below the count alone.
-- Assumes nothing.
use Prim.Native.Nat.{ℕ, ◌+◌, ◌-◌, ◌*◌, ◌≤◌, ◌<◌}
use mathlib.Core.Path.{◌≡◌, ap, ap₂, ◌∙◌}
use mathlib.Core.Bool.{cond}
use native.Mathlib.Omega.{arith}
use lib.IntN.{pos, sub_ℕ, ◌+ℤ◌, ◌-ℤ◌}
use lib.Dec.{ltb}
use Rattle.circle.specs.Signed.{leℤ, eqℤ, minℤ, maxℤ, or_zero}
use Rattle.circle.specs.Over.{◌and◌, first_below, least_where, greatest_where, index_of}
use Rattle.circle.specs.Man.{man}
use Rattle.circle.specs.Method.{Timed, halves, t, t', u, pair_width, has_red, b, B, reference, phase, offset, equal_width, red_end, red_start}
use Rattle.circle.proofs.Numbers.Signed.{sub_eq, pos_sub, pos_minus, add_sub, minus_sub}
use Rattle.circle.proofs.Numbers.Man.{Turns, man_lt, man_unique, man_turns, man_turns_twice}
use Rattle.circle.proofs.Numbers.Over.{first_ext, first_lt}
use Rattle.circle.proofs.Numbers.Where.{over_ext}

-- u's argument as one difference
u_argument : (s : Timed) (i j e : ℕ) → pos (s.red i) -ℤ pos (s.red j) +ℤ t s i j -ℤ t' s i j -ℤ pos e ≡ sub_ℕ (s.red i + s.outbound j + s.inbound j) (s.red j + s.outbound i + s.inbound i + e)
u_argument s i j e =
    ap₂ (λ x y. x +ℤ y -ℤ t' s i j -ℤ pos e) (pos_minus (s.red i) (s.red j)) (pos_minus (s.outbound j) (s.outbound i))
    ∙ ap₂ (λ x y. x -ℤ y -ℤ pos e) (add_sub (s.red i) (s.red j) (s.outbound j) (s.outbound i)) (pos_minus (s.inbound i) (s.inbound j))
    ∙ ap₂ (λ x y. x -ℤ y) (minus_sub (s.red i + s.outbound j) (s.red j + s.outbound i) (s.inbound i) (s.inbound j)) (pos_sub e)
    ∙ minus_sub (s.red i + s.outbound j + s.inbound j) (s.red j + s.outbound i + s.inbound i) e 0
    ∙ sub_eq (s.red i + s.outbound j + s.inbound j + 0) (s.red j + s.outbound i + s.inbound i + e) (s.red i + s.outbound j + s.inbound j) (s.red j + s.outbound i + s.inbound i + e) (omega arith)

-- u from a number in range that is its remainder
pub u_is : (s : Timed) (i j e z : ℕ) → z < halves s → Turns (halves s) (z + (s.red j + s.outbound i + s.inbound i + e)) (s.red i + s.outbound j + s.inbound j) → u s i j e ≡ halves s - z
unfolding u
u_is s i j e z l turns =
    ap (λ (x : ℕ). halves s - x)
    (ap (man (halves s)) (u_argument s i j e)
    ∙ man_unique (halves s) (s.red i + s.outbound j + s.inbound j) (s.red j + s.outbound i + s.inbound i + e) z l turns)

-- u lies in 1 to H
pub u_range : (s : Timed) (i j e : ℕ) → 0 < s.cycle → (1 ≤ u s i j e) × (u s i j e ≤ halves s)
unfolding u
u_range s i j e h =
    let l : 0 < 2 * s.cycle = omega arith in
    let m = man_lt (2 * s.cycle) (pos (s.red i) -ℤ pos (s.red j) +ℤ t s i j -ℤ t' s i j -ℤ pos e) l in
    omega (arith, m)

-- a pair's width, raised by the cycle
pub raised-width : (s : Timed) (i j e : ℕ) → 2 * s.red j ≤ halves s → pair_width s i j e ≡ sub_ℕ (u s i j e + (halves s - 2 * s.red j)) (halves s)
unfolding pair_width
raised-width s i j e h =
    pos_minus (u s i j e) (2 * s.red j)
    ∙ sub_eq (u s i j e) (2 * s.red j) (u s i j e + (halves s - 2 * s.red j)) (halves s) (omega arith)

-- an offset from a number in range that is its remainder
pub offset_is : (s : Timed) (c j x : ℕ) → x < halves s → Turns (halves s) (x + (s.outbound c + s.inbound j)) (s.outbound j + s.inbound c + phase s c j) → offset s c j ≡ x
unfolding offset
offset_is s c j x l turns =
    ap (man (halves s))
    (ap₂ (λ y z. y +ℤ z +ℤ pos (phase s c j)) (pos_minus (s.outbound j) (s.outbound c)) (pos_minus (s.inbound c) (s.inbound j))
    ∙ ap₂ ◌+ℤ◌ (add_sub (s.outbound j) (s.outbound c) (s.inbound c) (s.inbound j)) (pos_sub (phase s c j))
    ∙ add_sub (s.outbound j + s.inbound c) (s.outbound c + s.inbound j) (phase s c j) 0
    ∙ sub_eq (s.outbound j + s.inbound c + phase s c j) (s.outbound c + s.inbound j + 0) (s.outbound j + s.inbound c + phase s c j) (s.outbound c + s.inbound j) (omega arith))
    ∙ man_unique (halves s) (s.outbound j + s.inbound c + phase s c j) (s.outbound c + s.inbound j) x l turns

pub offset_lt : (s : Timed) (c j : ℕ) → 0 < s.cycle → offset s c j < halves s
unfolding offset
offset_lt s c j h = let l : 0 < 2 * s.cycle = omega arith in man_lt (2 * s.cycle) (t s c j +ℤ t' s c j +ℤ pos (phase s c j)) l

-- two streets of one cycle and count that agree below the count
pub record Agree (s z : Timed) : Type 0 where
  pub cycle : s.cycle ≡ z.cycle
  pub signals : s.signals ≡ z.signals
  pub red : (k : ℕ) → k < s.signals → s.red k ≡ z.red k
  pub outbound : (k : ℕ) → k < s.signals → s.outbound k ≡ z.outbound k
  pub inbound : (k : ℕ) → k < s.signals → s.inbound k ≡ z.inbound k

module _ (s z : Timed) (agree : Agree s z) where
  pub u_agree : (i j e : ℕ) → i < s.signals → j < s.signals → u s i j e ≡ u z i j e
  unfolding u
  u_agree i j e li lj =
      cc (agree.cycle, agree.red i li, agree.red j lj, agree.outbound i li, agree.outbound j lj, agree.inbound i li, agree.inbound j lj)

  width_agree : (i j e : ℕ) → i < s.signals → j < s.signals → pair_width s i j e ≡ pair_width z i j e
  unfolding pair_width
  width_agree i j e li lj =
      ap₂ (λ (x y : ℕ). pos x -ℤ pos (2 * y)) (u_agree i j e li lj) (agree.red j lj)

  pub has_red_agree : (j : ℕ) → j < s.signals → has_red s j ≡ has_red z j
  has_red_agree j lj = ap (ltb 0) (agree.red j lj)

  b_agree : (i : ℕ) → i < s.signals → b s i ≡ b z i
  unfolding b
  b_agree i li =
      over_ext minℤ (pos (halves s)) s.signals (has_red s) (has_red z) _ _ has_red_agree
      (λ j lj. ap₂ maxℤ (width_agree i j 0 li lj) (width_agree i j s.cycle li lj ∙ ap (pair_width z i j) agree.cycle))
      ∙ ap₂ (λ (c n : ℕ). least_where (pos (2 * c)) n (has_red z) (λ j. maxℤ (pair_width z i j 0) (pair_width z i j z.cycle))) agree.cycle agree.signals

  pub B_agree : B s ≡ B z
  unfolding B
  B_agree =
      over_ext maxℤ (pos (halves s)) s.signals (has_red s) (has_red z) (b s) (b z) has_red_agree b_agree
      ∙ ap₂ (λ (c n : ℕ). greatest_where (pos (2 * c)) n (has_red z) (b z)) agree.cycle agree.signals

  pub reference_agree : reference s ≡ reference z
  unfolding reference
  reference_agree =
      ap index_of
      (first_ext s.signals (λ i. has_red s i and eqℤ (b s i) (B s)) (λ i. has_red z i and eqℤ (b z i) (B z))
      (λ i li. ap₂ ◌and◌ (has_red_agree i li) (ap₂ eqℤ (b_agree i li) B_agree))
      ∙ ap (λ (n : ℕ). first_below n (λ i. has_red z i and eqℤ (b z i) (B z))) agree.signals)

  pub phase_agree : (c j : ℕ) → c < s.signals → j < s.signals → phase s c j ≡ phase z c j
  unfolding phase
  phase_agree c j lc lj =
      ap₂ (λ r (e : ℕ). cond r e 0) (has_red_agree j lj)
      (ap₂ (λ p (e : ℕ). cond p 0 e)
      (ap₂ leℤ (width_agree c j s.cycle lc lj ∙ ap (pair_width z c j) agree.cycle) (width_agree c j 0 lc lj))
      agree.cycle)

  pub offset_agree : (c j : ℕ) → c < s.signals → j < s.signals → offset s c j ≡ offset z c j
  unfolding offset
  offset_agree c j lc lj =
      cc (agree.cycle, phase_agree c j lc lj, agree.outbound c lc, agree.outbound j lj, agree.inbound c lc, agree.inbound j lj)

  pub equal_width_agree : equal_width s ≡ equal_width z
  unfolding equal_width
  equal_width_agree = ap or_zero B_agree

  pub red_end_agree : (c f : ℕ) → c < s.signals → red_end s c f ≡ red_end z c f
  unfolding red_end
  red_end_agree c f l = cc (agree.cycle, agree.red c l)

  pub red_start_agree : (c f : ℕ) → c < s.signals → red_start s c f ≡ red_start z c f
  unfolding red_start
  red_start_agree c f l = cc (agree.cycle, agree.red c l)

-- the reference is one of the signals
pub reference_lt : (s : Timed) → 0 < s.signals → reference s < s.signals
unfolding reference
reference_lt s h = first_lt s.signals (λ i. has_red s i and eqℤ (b s i) (B s)) h

-- u from places on the cycle: each signal's red less its two sums, reduced once
pub u_reduced : (s : Timed) (i j e x y : ℕ) → 0 < s.cycle → x ≡ man (halves s) (pos (s.red i) -ℤ pos (s.outbound i + s.inbound i)) → y ≡ man (halves s) (pos (s.red j) -ℤ pos (s.outbound j + s.inbound j)) → u s i j e ≡ halves s - man (halves s) (pos x -ℤ pos y -ℤ pos e)
u_reduced s i j e x y h ex ey =
    let some : 0 < 2 * s.cycle = omega arith in
    let cx = man_turns (halves s) (s.red i) (s.outbound i + s.inbound i) some in
    let cy = man_turns (halves s) (s.red j) (s.outbound j + s.inbound j) some in
    let cz = man_turns_twice (halves s) x y e some in
    u_is s i j e (man (halves s) (pos x -ℤ pos y -ℤ pos e)) (man_lt (halves s) (pos x -ℤ pos y -ℤ pos e) some)
    (record {
      p = cz.p + cy.q + cx.p;
      q = cz.q + cy.p + cx.q;
      eq = omega (arith, cx.eq, cy.eq, cz.eq, ex, ey);
    })
