-- Signed numbers as differences of two naturals, `sub_ℕ a b` for a - b, so that `omega` can do the work: two differences are equal when the crosswise
-- sums are, sums and differences go part by part, and tests, choices and the part above 0 are those of naturals raised by one amount.
-- Assumes nothing.
use Prim.Native.Nat.{ℕ, zero, suc, ◌+◌, ◌-◌, ◌≤◌, ◌<◌, min, max}
use mathlib.Core.Path.{◌≡◌, refl, sym, ap, ap₂, ◌∙◌}
use mathlib.Core.Bool.{true, false, cond}
use native.Mathlib.Omega.{arith}
use native.Mathlib.Decide.{dec_lt, dec_le}
use lib.IntN.{ℤ, pos, negsuc, sub_ℕ, neg_ℤ, ◌+ℤ◌, ◌-ℤ◌}
use lib.Dec.{leb}
use borrow.Author.Tests.{lt-ltb, le-ltb, le-leb, lt-leb}
use Rattle.circle.specs.Signed.{leℤ, eqℤ, minℤ, maxℤ, or_zero}

pub sub_pos : (a b : ℕ) → b ≤ a → sub_ℕ a b ≡ pos (a - b)
sub_pos a b h = ap (λ t. cond t (negsuc (b - suc a)) (pos (a - b))) (le-ltb a b h)

pub sub_neg : (a b : ℕ) → a < b → sub_ℕ a b ≡ negsuc (b - suc a)
sub_neg a b h = ap (λ t. cond t (negsuc (b - suc a)) (pos (a - b))) (lt-ltb a b h)

-- a difference is known by its crosswise sums
pub sub_eq : (a b c d : ℕ) → a + d ≡ c + b → sub_ℕ a b ≡ sub_ℕ c d
sub_eq a b c d e = go (dec_lt a b)
  where
    go : Dec (a < b) → sub_ℕ a b ≡ sub_ℕ c d
    go (yes h) =
        let k : c < d = omega arith in
        let same : b - suc a ≡ d - suc c = omega arith in
        sub_neg a b h ∙ ap negsuc same ∙ sym (sub_neg c d k)
    go (no h) =
        let l : b ≤ a = omega arith in
        let k : d ≤ c = omega arith in
        let same : a - b ≡ c - d = omega arith in
        sub_pos a b l ∙ ap pos same ∙ sym (sub_pos c d k)

pub pos_sub : (a : ℕ) → pos a ≡ sub_ℕ a 0
pos_sub a = let e : a ≡ a - 0 = omega arith in let l : 0 ≤ a = omega arith in ap pos e ∙ sym (sub_pos a 0 l)

pub negsuc_sub : (a : ℕ) → negsuc a ≡ sub_ℕ 0 (suc a)
negsuc_sub a =
    let e : a ≡ suc a - suc 0 = omega arith in let l : 0 < suc a = omega arith in ap negsuc e ∙ sym (sub_neg 0 (suc a) l)

-- every signed number is the difference of these two
unfoldable pub up : ℤ → ℕ
up (pos a) = a
up (negsuc a) = 0

unfoldable pub down : ℤ → ℕ
down (pos a) = 0
down (negsuc a) = suc a

pub up_down : (a b : ℕ) → up (sub_ℕ a b) + b ≡ a + down (sub_ℕ a b)
unfolding up down
up_down a b = go (dec_lt a b)
  where
    go : Dec (a < b) → up (sub_ℕ a b) + b ≡ a + down (sub_ℕ a b)
    go (yes h) =
        let e : 0 + b ≡ a + suc (b - suc a) = omega arith in
        ap (λ (z : ℤ). up z + b) (sub_neg a b h) ∙ e ∙ sym (ap (λ (z : ℤ). a + down z) (sub_neg a b h))
    go (no h) =
        let l : b ≤ a = omega arith in
        let e : a - b + b ≡ a + 0 = omega arith in
        ap (λ (z : ℤ). up z + b) (sub_pos a b l) ∙ e ∙ sym (ap (λ (z : ℤ). a + down z) (sub_pos a b l))

add_split : (x y : ℤ) → x +ℤ y ≡ sub_ℕ (up x + up y) (down x + down y)
unfolding up down
add_split (pos a) (pos b) = pos_sub (a + b)
add_split (pos a) (negsuc b) = sub_eq a (suc b) (a + 0) (0 + suc b) (omega arith)
add_split (negsuc a) (pos b) = sub_eq b (suc a) (0 + b) (suc a + 0) (omega arith)
add_split (negsuc a) (negsuc b) =
    negsuc_sub (suc (a + b)) ∙ sub_eq 0 (suc (suc (a + b))) (0 + 0) (suc a + suc b) (omega arith)

pub add_sub : (a b c d : ℕ) → sub_ℕ a b +ℤ sub_ℕ c d ≡ sub_ℕ (a + c) (b + d)
add_sub a b c d =
    add_split (sub_ℕ a b) (sub_ℕ c d)
    ∙ sub_eq (up (sub_ℕ a b) + up (sub_ℕ c d)) (down (sub_ℕ a b) + down (sub_ℕ c d)) (a + c) (b + d) (omega (arith, up_down a b, up_down c d))

neg_split : (x : ℤ) → neg_ℤ x ≡ sub_ℕ (down x) (up x)
unfolding up down
neg_split (pos zero) = refl
neg_split (pos (suc a)) = negsuc_sub a
neg_split (negsuc a) = pos_sub (suc a)

pub neg_sub : (a b : ℕ) → neg_ℤ (sub_ℕ a b) ≡ sub_ℕ b a
neg_sub a b =
    neg_split (sub_ℕ a b)
    ∙ sub_eq (down (sub_ℕ a b)) (up (sub_ℕ a b)) b a (omega (arith, up_down a b))

pub minus_sub : (a b c d : ℕ) → sub_ℕ a b -ℤ sub_ℕ c d ≡ sub_ℕ (a + d) (b + c)
minus_sub a b c d = ap (λ z. sub_ℕ a b +ℤ z) (neg_sub c d) ∙ add_sub a b d c

pub pos_minus : (a b : ℕ) → pos a -ℤ pos b ≡ sub_ℕ a b
pos_minus a b =
    ap₂ (λ x y. x -ℤ y) (pos_sub a) (pos_sub b) ∙ minus_sub a 0 b 0 ∙ sub_eq (a + 0) (0 + b) a b (omega arith)

-- two tests agree when what they test goes both ways
leb_agree : (p q a b : ℕ) → (p ≤ q → a ≤ b) → (a ≤ b → p ≤ q) → leb p q ≡ leb a b
leb_agree p q a b f g = go (dec_le p q) (dec_le a b)
  where
    go : Dec (p ≤ q) → Dec (a ≤ b) → leb p q ≡ leb a b
    go (yes k) (yes l) = le-leb p q k ∙ sym (le-leb a b l)
    go (yes k) (no n) = absurd (n (f k))
    go (no n) (yes l) = absurd (n (g l))
    go (no n) (no m) =
        let k : q < p = omega arith in let l : b < a = omega arith in lt-leb p q k ∙ sym (lt-leb a b l)

-- tests and choices between numbers raised by the same h are those of the raised naturals
pub le_sub : (a b h : ℕ) → leℤ (sub_ℕ a h) (sub_ℕ b h) ≡ leb a b
le_sub a b h = go (dec_lt a h) (dec_lt b h)
  where
    go : Dec (a < h) → Dec (b < h) → leℤ (sub_ℕ a h) (sub_ℕ b h) ≡ leb a b
    go (yes p) (yes q) =
        ap₂ leℤ (sub_neg a h p) (sub_neg b h q) ∙ leb_agree (h - suc b) (h - suc a) a b (omega arith) (omega arith)
    go (yes p) (no q) =
        let k : h ≤ b = omega arith in
        let l : a ≤ b = omega arith in
        ap₂ leℤ (sub_neg a h p) (sub_pos b h k) ∙ sym (le-leb a b l)
    go (no p) (yes q) =
        let k : h ≤ a = omega arith in
        let l : b < a = omega arith in
        ap₂ leℤ (sub_pos a h k) (sub_neg b h q) ∙ sym (lt-leb a b l)
    go (no p) (no q) =
        let k : h ≤ a = omega arith in
        let l : h ≤ b = omega arith in
        ap₂ leℤ (sub_pos a h k) (sub_pos b h l) ∙ leb_agree (a - h) (b - h) a b (omega arith) (omega arith)

both_ways : (a b : ℕ) → a ≡ b → cond (leb a b) (leb b a) false ≡ true
both_ways a b e = ap₂ (λ t u. cond t u false) (le-leb a b (omega arith)) (le-leb b a (omega arith))

pub eqℤ_refl : (x : ℤ) → eqℤ x x ≡ true
eqℤ_refl (pos a) = both_ways a a refl
eqℤ_refl (negsuc a) = both_ways a a refl

pub sub_injective : (a b h : ℕ) → sub_ℕ a h ≡ sub_ℕ b h → a ≡ b
sub_injective a b h e =
    omega (arith, up_down a h, up_down b h, ap up e, ap down e)

pub ne_sub : (a b h : ℕ) → (a ≡ b → ⊥) → eqℤ (sub_ℕ a h) (sub_ℕ b h) ≡ false
ne_sub a b h n = ap₂ (λ t u. cond t u false) (le_sub a b h) (le_sub b a h) ∙ go (dec_le a b)
  where
    go : Dec (a ≤ b) → cond (leb a b) (leb b a) false ≡ false
    go (yes l) = ap₂ (λ t u. cond t u false) (le-leb a b l) (lt-leb b a (other l))
      where
        other : a ≤ b → a < b
        other l = omega (arith, n)
    go (no l) = ap (λ t. cond t (leb b a) false) (lt-leb a b (omega arith))

pub min_sub : (a b h : ℕ) → minℤ (sub_ℕ a h) (sub_ℕ b h) ≡ sub_ℕ (min a b) h
min_sub a b h = go (dec_le a b)
  where
    go : Dec (a ≤ b) → minℤ (sub_ℕ a h) (sub_ℕ b h) ≡ sub_ℕ (min a b) h
    go (yes l) =
        let e : a ≡ min a b = omega arith in
        ap (λ t. cond t (sub_ℕ a h) (sub_ℕ b h)) (le_sub a b h ∙ le-leb a b l) ∙ ap (λ (x : ℕ). sub_ℕ x h) e
    go (no n) =
        let l : b < a = omega arith in
        let e : b ≡ min a b = omega arith in
        ap (λ t. cond t (sub_ℕ a h) (sub_ℕ b h)) (le_sub a b h ∙ lt-leb a b l) ∙ ap (λ (x : ℕ). sub_ℕ x h) e

pub max_sub : (a b h : ℕ) → maxℤ (sub_ℕ a h) (sub_ℕ b h) ≡ sub_ℕ (max a b) h
max_sub a b h = go (dec_le a b)
  where
    go : Dec (a ≤ b) → maxℤ (sub_ℕ a h) (sub_ℕ b h) ≡ sub_ℕ (max a b) h
    go (yes l) =
        let e : b ≡ max a b = omega arith in
        ap (λ t. cond t (sub_ℕ b h) (sub_ℕ a h)) (le_sub a b h ∙ le-leb a b l) ∙ ap (λ (x : ℕ). sub_ℕ x h) e
    go (no n) =
        let l : b < a = omega arith in
        let e : a ≡ max a b = omega arith in
        ap (λ t. cond t (sub_ℕ b h) (sub_ℕ a h)) (le_sub a b h ∙ lt-leb a b l) ∙ ap (λ (x : ℕ). sub_ℕ x h) e

-- the part above 0 is the truncated difference
pub or_zero_sub : (a h : ℕ) → or_zero (sub_ℕ a h) ≡ a - h
or_zero_sub a h = go (dec_lt a h)
  where
    go : Dec (a < h) → or_zero (sub_ℕ a h) ≡ a - h
    go (yes l) = let e : 0 ≡ a - h = omega arith in ap or_zero (sub_neg a h l) ∙ e
    go (no n) = let l : h ≤ a = omega arith in ap or_zero (sub_pos a h l)

-- naturals as signed numbers: a difference that does not go below 0, and the smaller of two
pub pos_less : (a b : ℕ) → b ≤ a → pos (a - b) ≡ pos a -ℤ pos b
pos_less a b l = sym (pos_minus a b ∙ sub_pos a b l)

pub pos_min : (a b : ℕ) → pos (min a b) ≡ minℤ (pos a) (pos b)
pos_min a b = pos_sub (min a b) ∙ sym (min_sub a b 0) ∙ ap₂ minℤ (sym (pos_sub a)) (sym (pos_sub b))
