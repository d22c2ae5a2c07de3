use Rattle.std.proofs.Common.{ℕ, suc, ◌+◌, ◌-◌, ◌/◌, ◌%◌, ◌<◌, ◌≡◌, ◌∙◌, sym, ap, arith, List, length, set}
use Rattle.decimal.specs.Decimal.{decimal}
use Rattle.decimal.specs.Steps.{overwritten}
use Rattle.decimal.proofs.Digits.{last_digits, length-last_digits, last_are_all}
use Rattle.decimal.proofs.Writing.{last-first, overwritten-none}
use Rattle.decimal.proofs.write.Goals as goal

-- as many digits are left to write as there are places up to this one
left_are : (at x n m : ℕ) (l : List ℕ) → n ≡ length (decimal x) → m ≡ n → overwritten at (last_digits m x) l ≡ overwritten at (decimal x) l
left_are at x n m l size e = ap (λ (ds : List ℕ). overwritten at ds l) (rw (e, size) (sym (last_are_all 20 x)))

-- the last of them goes to the last of the places
digit_first : (at k place m x : ℕ) (l : List ℕ) → place ≡ at + k → m ≡ suc k → place < length l → overwritten at (last_digits k (x / 10)) (set l place (48 + x % 10)) ≡ overwritten at (last_digits m x) l
unfolding last_digits
digit_first at k place m x l there more room =
    let last : place ≡ at + length (last_digits k (x / 10)) = omega (arith, length-last_digits k (x / 10)) in
    rw (last, more) (last-first at (48 + x % 10) (last_digits k (x / 10)) l (omega arith))

-- with no place left, nothing is
none_are : (at m x : ℕ) (l : List ℕ) → m ≡ 0 → overwritten at (last_digits m x) l ≡ l
unfolding last_digits
none_are at m x l e = rw e (overwritten-none at l)

pub loop-place-init : goal.loop-place-init
loop-place-init c = (omega arith, left_are c.args.at c.args.x c.size.result _ c.args.bytes.now c.size.ensures (omega arith))

pub loop-place-preserved : goal.loop-place-preserved
loop-place-preserved c =
    let h = c.loop-place in
    (omega arith, digit_first c.args.at (h.place - 1 - c.args.at) (h.place - 1) (h.place - c.args.at) h.rest h.bytes (omega arith) (omega arith) (omega arith) ∙ h.invariant.1)

pub returns : goal.returns
returns c =
    let h = c.loop-place in
    record {
      after = sym (none_are c.args.at (h.place - c.args.at) h.rest h.bytes (omega arith)) ∙ h.invariant.1;
      next = omega arith;
    }
