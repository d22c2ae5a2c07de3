-- What rounding does to the times to the signals. Where each link's rounded and exact time are at most N apart if a test marks it, and equal if not, what rounding added and what it
-- dropped over the links before a signal together come to at most N for each mark. The exact and the rounded time to a signal differ by these two sums, so both lists of lags, from
-- the first signal on and up to the last one, stay in a window of N times the marks. Assumes nothing.
use Prim.Native.Nat.{ℕ, zero, suc, ◌+◌, ◌-◌, ◌*◌, ◌≤◌, ◌<◌}
use mathlib.Core.Path.{◌≡◌, refl}
use mathlib.Core.Bool.{Bool, cond}
use native.Mathlib.Omega.{arith}
use native.Mathlib.Nat.{mul-le-mul_left}
use Rattle.circle.specs.Over.{sum_below, count_below}
use Rattle.circle.proofs.Numbers.{sum_rises}
use Rattle.road.proofs.Nearest.{apart}

-- a list of lags in fine units as rounding has it, and the exact one: up to the signal n they lie, moved by one amount, in a window of the length most
pub record Window (n most : ℕ) (rounded exact : ℕ → ℕ) : Type 0 where
  pub moved : ℕ
  pub δ : ℕ → ℕ
  pub each : (j : ℕ) → j ≤ n → exact j + moved ≡ rounded j + δ j
  pub within : (j : ℕ) → j ≤ n → δ j ≤ most

-- lags as they are stay in a window of no length
pub unmoved : (n : ℕ) (lag : ℕ → ℕ) (most : ℕ) → Window n most lag lag
unmoved n lag most = record { moved = 0; δ = λ j. 0; each = λ j l. refl; within = λ j l. omega arith }

-- over links whose two times R and X differ by at most N where a test marks them, and by nothing elsewhere
module _ (N n : ℕ) (R X : ℕ → ℕ) (test : ℕ → Bool) (each : (k : ℕ) → k < n → apart (2 * (N * R k)) (X k) ≤ N * cond (test k) 1 0) where
  up : ℕ → ℕ
  up k = 2 * (N * R k) - X k

  down : ℕ → ℕ
  down k = X k - 2 * (N * R k)

  even_sums : (j : ℕ) → sum_below j X + sum_below j up ≡ 2 * (N * sum_below j R) + sum_below j down
  unfolding sum_below up down
  even_sums zero = omega arith
  even_sums (suc j) = omega (arith, even_sums j)

  small : (j : ℕ) → j ≤ n → sum_below j up + sum_below j down ≤ N * count_below j test
  unfolding sum_below up down
  small zero l = omega arith
  small (suc j) l = omega (arith, small j (omega arith), each j l)

  -- counted from the first signal on
  pub from_first : Window n (N * count_below n test) (λ j. 2 * (N * sum_below j R)) (λ j. sum_below j X)
  from_first =
      record {
        moved = sum_below n up;
        δ = λ j. sum_below j down + (sum_below n up - sum_below j up);
        each = λ j l. omega (arith, even_sums j, sum_rises up n j l);
        within = λ j l. omega (arith, small n (omega arith), sum_rises up n j l, sum_rises down n j l);
      }

  -- and up to the last
  pub to_last : Window n (N * count_below n test) (λ j. 2 * (N * sum_below n R - N * sum_below j R)) (λ j. sum_below n X - sum_below j X)
  to_last =
      record {
        moved = sum_below n up;
        δ = λ j. sum_below j up + (sum_below n down - sum_below j down);
        each =
            λ j l.
            let r = mul-le-mul_left N (sum_rises R n j l) in
            omega (arith, even_sums j, even_sums n, sum_rises X n j l, sum_rises down n j l);
        within = λ j l. omega (arith, small n (omega arith), sum_rises up n j l, sum_rises down n j l);
      }
