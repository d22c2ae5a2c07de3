-- `eighths::in_eighths` meets its contract: zero is no eighths, a number in range is as many as eight times it, and a float that is a whole number of eighths is one of
-- these.
use Prim.Native.Nat.{ℕ, zero, suc}
use mathlib.Core.Path.{◌≡◌, sym, ◌∙◌, subst}
use mathlib.Core.Bool.{Bool, true, false}
use lib.Dec.{T}
use lib.Ieee.{Float, eq, le, of_bits}
use Rattle.std.specs.Prelude.{None}
use Rattle.eighths.specs.Readings.{eighths_of, IsEighths}
use Rattle.eighths.proofs.Bounds.{nothing, zero_is, is_zero, from-eighth, to_largest}
use Rattle.eighths.proofs.Meaning.{is_whole, is_outside}
use Rattle.eighths.proofs.TimesEight.{eighth, largest, from-least, to_most, in_eighths}
use Rattle.eighths.proofs.in_eighths.Goals as goal
use Rattle.eighths.proofs.in_eighths.Goals.{else-x-2-via-then-x-2+else-x-3, else-x-2-via-else-x-2}

yes : {b : Bool} → b ≡ true → T b
yes h = subst T (sym h) tt

no : {b : Bool} → b ≡ false → T b → ⊥
no h t = subst T h t

-- not zero, and not from an eighth to 20,000
other : (x : Float) → eq x nothing ≡ false → ((k : ℕ) → IsEighths x (suc k) → ⊥) → None ≡ eighths_of x
other x z h = sym (is_outside x go)
  where
    go : (k : ℕ) → IsEighths x k → ⊥
    go zero i = no z (is_zero x i)
    go (suc k) i = h k i

pub returns-then-x : goal.returns-then-x
unfolding of_bits
returns-then-x c = sym (is_whole c.args.x 0 (zero_is c.args.x (yes c.if-x.true)))

pub whole-requires : goal.whole-requires
unfolding of_bits
whole-requires c =
    let held = subst T (sym c.well_formed.0.1) tt in
    let lo : T (le eighth c.args.x) = yes c.if-x-2.true in
    let hi : T (le c.args.x largest) = yes c.if-x-3.true in
    (from-least c.args.x held lo hi, to_most c.args.x held lo hi)

pub returns-then-x-3 : goal.returns-then-x-3
unfolding of_bits
returns-then-x-3 c =
    c.whole.ensures ∙ in_eighths c.args.x (subst T (sym c.well_formed.0.1) tt) (yes c.if-x-2.true) (yes c.if-x-3.true)

pub returns : goal.returns
unfolding of_bits
returns c =
    let x = c.args.x in
    elim c.else-x-2.branch [
      | else-x-2-via-then-x-2+else-x-3 w ↦ other x c.if-x.false (λ k i. no w.if-x-3.false (to_largest x k i))
      | else-x-2-via-else-x-2 w ↦ other x c.if-x.false (λ k i. no w.if-x-2.false (from-eighth x k i))
    ]
