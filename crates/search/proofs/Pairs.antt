-- Laws of a pair of widths: its two numbers go on from one remainder to the next, and from anchors they are the pair's widths, raised by the cycle; where the limit rests both are
-- the whole cycle. So the larger of them is what the limit leaves. Assumes nothing.
use Prim.Native.Nat.{ℕ, ◌+◌, ◌-◌, ◌*◌, ◌≤◌, ◌<◌, max}
use mathlib.Core.Path.{◌≡◌, sym, ap, ap₂, ◌∙◌}
use mathlib.Core.Bool.{cond}
use mathlib.Core.List.{List, [], ◌∷◌}
use native.Mathlib.Omega.{arith}
use native.Mathlib.Decide.{dec_lt}
use native.Mathlib.Nat.{add-zero}
use lib.IntN.{pos, ◌-ℤ◌}
use lib.ListN.{get_or}
use borrow.Author.Tests.{lt-ltb, le-ltb}
use Rattle.circle.specs.Man.{man}
use Rattle.circle.specs.Method.{Timed, halves}
use Rattle.circle.proofs.Numbers.{man_lt, man_step, minus_minus}
use Rattle.circle.proofs.Formulas.{limit, limit_red, limit_rest, raised, u_reduced}
use Rattle.search.specs.Steps.{anchor, leaves_of, pair_of, Reduced}

-- what a limit with a red leaves, and what one that rests does
pub leaves_red : (cycle red gone : ℕ) → 0 < red → leaves_of cycle red gone ≡ 4 * cycle - gone - 2 * red
leaves_red cycle red gone stops = ap (λ t. cond t (4 * cycle - gone - 2 * red) (4 * cycle)) (lt-ltb 0 red stops)

pub leaves_rest : (cycle red gone : ℕ) → (0 < red → ⊥) → leaves_of cycle red gone ≡ 4 * cycle
leaves_rest cycle red gone none = ap (λ t. cond t (4 * cycle - gone - 2 * red) (4 * cycle)) (le-ltb 0 red (omega (arith, none)))

pub pair_rest : (cycle from to red : ℕ) → (0 < red → ⊥) → pair_of cycle from to red ≡ 4 * cycle ∷ 4 * cycle ∷ []
pair_rest cycle from to red none =
    ap₂ (λ (x y : ℕ). x ∷ y ∷ [])
    (leaves_rest cycle red (man (2 * cycle) (pos from -ℤ pos to)) none)
    (leaves_rest cycle red (man (2 * cycle) (pos from -ℤ pos to -ℤ pos cycle)) none)

-- a pair's two numbers, from the two remainders that the code takes one after the other
pub pair_is : (cycle from to red even odd : ℕ) → 1 ≤ cycle → even ≡ man (2 * cycle) (pos from -ℤ pos to) → odd ≡ man (2 * cycle) (pos even -ℤ pos cycle) →
    leaves_of cycle red even ∷ leaves_of cycle red odd ∷ [] ≡ pair_of cycle from to red
pair_is cycle from to red even odd some e o =
    let h : 0 < 2 * cycle = omega arith in
    let o' : odd ≡ man (2 * cycle) (pos from -ℤ pos to -ℤ pos cycle) =
    o ∙ ap (λ (x : ℕ). man (2 * cycle) (pos x -ℤ pos cycle)) e ∙ man_step (2 * cycle) from to cycle h in
    ap₂ (λ (x y : ℕ). leaves_of cycle red x ∷ leaves_of cycle red y ∷ []) e o'

-- a pair's widths, raised, under phase 0 and under the cycle
pub record Pair (s : Timed) (i j : ℕ) (w : List ℕ) : Type 0 where
  pub even : get_or w 0 0 ≡ raised s i j 0
  pub odd : get_or w 1 0 ≡ raised s i j s.cycle

-- one of them from two anchors
raised-pair : (s : Timed) (i j e x y : ℕ) → 0 < s.cycle → s.red j < s.cycle → x ≡ anchor s i → y ≡ anchor s j →
    4 * s.cycle - man (halves s) (pos x -ℤ pos y -ℤ pos e) - 2 * s.red j ≡ raised s i j e
raised-pair s i j e x y h red ex ey =
    let some : 0 < 2 * s.cycle = omega arith in
    omega (arith, man_lt (halves s) (pos x -ℤ pos y -ℤ pos e) some, u_reduced s i j e x y h ex ey)

-- and both
pub pair-widths : (s : Timed) (i j x y : ℕ) (w : List ℕ) → 0 < s.cycle → 0 < s.red j → s.red j < s.cycle → x ≡ anchor s i → y ≡ anchor s j → w ≡ pair_of s.cycle x y (s.red j) → Pair s i j w
pair-widths s i j x y w h stops red ex ey e =
    let same : pos x -ℤ pos y -ℤ pos 0 ≡ pos x -ℤ pos y = minus_minus x y 0 ∙ ap (λ (k : ℕ). pos x -ℤ pos k) (add-zero y) in
    record {
      even =
          ap (λ z. get_or z 0 0) e
          ∙ leaves_red s.cycle (s.red j) (man (halves s) (pos x -ℤ pos y)) stops
          ∙ ap (λ z. 4 * s.cycle - man (halves s) z - 2 * s.red j) (sym same)
          ∙ raised-pair s i j 0 x y h red ex ey;
      odd = ap (λ z. get_or z 1 0) e ∙ leaves_red s.cycle (s.red j) (man (halves s) (pos x -ℤ pos y -ℤ pos s.cycle)) stops ∙ raised-pair s i j s.cycle x y h red ex ey;
    }

-- the larger is what the limit leaves the candidate
pub pair-limit : (s : Timed) (i j x y : ℕ) (w : List ℕ) → 0 < s.cycle → s.red j < s.cycle → x ≡ anchor s i → y ≡ anchor s j → w ≡ pair_of s.cycle x y (s.red j) →
    max (get_or w 0 0) (get_or w 1 0) ≡ limit s i j
pair-limit s i j x y w h goes ex ey e = go (dec_lt 0 (s.red j))
  where
    go : Dec (0 < s.red j) → max (get_or w 0 0) (get_or w 1 0) ≡ limit s i j
    go (yes red) =
        let p = pair-widths s i j x y w h red goes ex ey e in
        ap₂ max p.even p.odd ∙ sym (limit_red s i j red)
    go (no none) =
        let both = e ∙ pair_rest s.cycle x y (s.red j) none in
        omega (arith, ap (λ z. get_or z 0 0) both, ap (λ z. get_or z 1 0) both, limit_rest s i j none)

-- anchors lie on the cycle
pub anchor_lt : (s : Timed) (x : List ℕ) (k : ℕ) → Reduced s x → k < s.signals → 0 < s.cycle → get_or x k 0 < halves s
anchor_lt s x k ok l some =
    let h : 0 < 2 * s.cycle = omega arith in
    omega (arith, ok.each k l, man_lt (halves s) (pos (s.red k) -ℤ pos (s.outbound k + s.inbound k)) h)
