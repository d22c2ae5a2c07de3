-- Every text has room in its buffer. An offset of 32 bits has at most ten digits, so its line takes 11 bytes at most; a number of any size
-- is printed with at most 20, so the one line before the offsets takes no more than what they leave. Assumes nothing.
use Rattle.std.specs.Prelude.{Ok, Err}
use Prim.Native.Nat.{ℕ, zero, suc, ◌*◌, ◌^◌, ◌≤◌, ◌<◌}
use native.Mathlib.Omega.{arith}
use mathlib.Core.List.{List, [], ◌∷◌}
use lib.IntN.{ℤ, pos, negsuc}
use lib.ListN.{length, get_or, take, length-append}
use Rattle.road.specs.Limits.{max_signals}
use Rattle.street.specs.Codes.{code_number}
use Rattle.street.specs.declared.Refusal.{Refusal}
use Rattle.decimal.specs.Decimal.{signed_decimal}
use Rattle.decimal.proofs.Digits.{few, decimal-ten}
use Rattle.plans.specs.declared.Plan.{Plan}
use Rattle.plans.specs.Answers.{Answer}
use Rattle.printed.specs.Text.{max_text, plan_line, offset_lines, refusal_line, text_of}

signed_size : (z : ℤ) → length (signed_decimal z) ≤ 21
signed_size (pos n) = omega (arith, few 20 n)
signed_size (negsuc n) = omega (arith, few 20 (suc n))

plan_line_size : (p : Plan) → length (plan_line p) ≤ 106
plan_line_size p =
    simp length-append
    (omega (
      arith,
      few 20 p.reference,
      signed_size p.b,
      few 20 p.outbound,
      few 20 p.inbound,
      few 20 p.rounded,
    ))

refusal_line_size : (f : Refusal) → length (refusal_line f) ≤ 50
refusal_line_size f = simp length-append (omega (arith, few 20 (code_number f.code), few 20 f.place))

offset_lines_size : (n : ℕ) (l : List ℕ) → ((i : ℕ) → get_or l i 0 < 2 ^ 32) → length (offset_lines (take n l)) ≤ 11 * n
unfolding offset_lines
offset_lines_size zero l small = omega arith
offset_lines_size (suc n) [] small = omega arith
offset_lines_size (suc n) (x ∷ l) small =
    simp length-append (omega (arith, decimal-ten x (small 0), offset_lines_size n l (λ i. small (suc i))))

-- the text of an answer, of whose offsets the first few are printed
pub text_size : (a : Answer) (n : ℕ) (l : List ℕ) → n ≤ max_signals → ((i : ℕ) → get_or l i 0 < 2 ^ 32) → length (text_of a (take n l)) ≤ max_text
text_size (Ok p) n l few small = omega (arith, length-append (plan_line p) (offset_lines (take n l)), plan_line_size p, offset_lines_size n l small)
text_size (Err f) n l few small = omega (arith, refusal_line_size f)
