-- How long a sheet can be. A number below ten to the k has at most k digits, so a line of two columns is as long as their limits allow, and 32 signals with 31 links between
-- them make 833 bytes at most. With that and numbers of eight digits a street that passes the checks can be written. Assumes nothing.
use Rattle.std.specs.Prelude.{Ok}
use Prim.Native.Nat.{ℕ, suc, ◌+◌, ◌-◌, ◌*◌, ◌^◌, ◌≤◌, ◌<◌}
use mathlib.Core.Path.{◌≡◌, ap}
use mathlib.Core.List.{List, [], ◌∷◌, ◌++◌}
use native.Mathlib.Omega.{arith}
use lib.ListN.{length, get_or, length-append}
use Rattle.street.specs.Lists.{Lists, signals}
use Rattle.street.specs.Checks.{plan_checks}
use Rattle.street.proofs.Passed.{InLimits, in_limits}
use Rattle.road.specs.Limits.{max_signals}
use Rattle.decimal.proofs.Digits.{at_most}
use Rattle.decimal.proofs.Writing.{room_first}
use Rattle.sheet.specs.Form.{number_line, pair_lines, text, AllEightDigits, Writable}
use Rattle.writer.specs.RoundTrips.{max_sheet}
use Rattle.writer.specs.Steps.{section_text}
use Rattle.writer.proofs.Lines.{text_sections}

-- every entry of a list is below a bound
abbrev Below : ℕ → List ℕ → Type 0
Below b xs = (i : ℕ) → i < length xs → get_or xs i 0 < b

-- a line for each pair: the digits of both numbers, j + 1 and k + 1 at most, and the two bytes that end them
module _ (j k : ℕ) (short : 10 ^ suc j ≤ 2 ^ 32) (short' : 10 ^ suc k ≤ 2 ^ 32) where
  pair_lines_size : (xs ys : List ℕ) → Below (10 ^ suc j) xs → Below (10 ^ suc k) ys → length (pair_lines xs ys) ≤ (j + k + 4) * length xs
  unfolding pair_lines
  pair_lines_size [] ys left right = omega arith
  pair_lines_size (x ∷ xs) [] left right = omega arith
  pair_lines_size (x ∷ xs) (y ∷ ys) left right =
      let more = pair_lines_size xs ys (λ i h. left (suc i) (omega arith)) (λ i h. right (suc i) (omega arith)) in
      let x-short = left 0 (omega arith) in
      let y-short = right 0 (omega arith) in
      simp length-append (omega (arith, at_most j x (omega arith) x-short, at_most k y (omega arith) y-short, more))

-- numbers below a hundred million have eight digits at most
all_eight : (xs : List ℕ) → Below (10 ^ 8) xs → AllEightDigits xs
all_eight [] b = tt
all_eight (x ∷ xs) b = (b 0 (omega arith), all_eight xs (λ i h. b (suc i) (omega arith)))

-- a street whose numbers are within their limits
module _ (l : Lists) (room : ℕ) (ok : InLimits l room) where
  reds_below : Below (10 ^ 4) l.reds
  reds_below i h = omega (arith, ok.reds i h, ok.cycle.high)

  distances_below : Below (10 ^ 8) l.distances
  distances_below i h = omega (arith, ok.distances i (omega (arith, ok.counts.distances)))

  outbound_below : Below (10 ^ 5) l.outbound
  outbound_below i h = omega (arith, ok.outbound.fast i h)

  inbound_below : Below (10 ^ 5) l.inbound
  inbound_below i h = omega (arith, ok.inbound.fast i h)

  size : length (text l) ≤ max_sheet
  unfolding text
  size =
      simp length-append
      (omega (
        arith,
        ok.counts,
        at_most 0 1 (omega arith) (omega arith),
        at_most 3 l.cycle (omega (arith, ok.cycle.high)) (omega (arith, ok.cycle.high)),
        at_most 1 (signals l) (omega (arith, ok.counts.most)) (omega (arith, ok.counts.most)),
        at_most 1 (signals l - 1) (omega (arith, ok.counts.most)) (omega (arith, ok.counts.most)),
        pair_lines_size 7 3 (omega arith) (omega arith) l.distances l.reds distances_below reds_below,
        pair_lines_size 4 4 (omega arith) (omega arith) l.outbound l.inbound outbound_below inbound_below,
      ))

  can_be_written : Writable l
  can_be_written =
      record {
        some = ok.counts.least;
        few = ok.counts.most;
        distances = ok.counts.distances;
        outbound = ok.counts.outbound;
        inbound = ok.counts.inbound;
        short_cycle = omega (arith, ok.cycle.high);
        short_reds = all_eight l.reds (λ i h. omega (arith, reds_below i h));
        short_distances = all_eight l.distances distances_below;
        short_outbound = all_eight l.outbound (λ i h. omega (arith, outbound_below i h));
        short_inbound = all_eight l.inbound (λ i h. omega (arith, inbound_below i h));
        fits = omega (arith, size);
      }

-- of a street that passes the checks
module _ (l : Lists) (room : ℕ) (passed : plan_checks l room ≡ Ok tt) where
  pub sheet_size : length (text l) ≤ max_sheet
  sheet_size = size l room (in_limits l room passed)

  pub writable : Writable l
  writable = can_be_written l room (in_limits l room passed)

-- a text's parts as they are written one after the other: the first two lines, the signals behind them, and the links
abbrev pub head : Lists → List ℕ
head l = number_line 1 ++ number_line l.cycle

abbrev pub with_signals : Lists → List ℕ
with_signals l = head l ++ section_text l.distances l.reds

abbrev pub with_links : Lists → List ℕ
with_links l = with_signals l ++ section_text l.outbound l.inbound

-- there are n bytes, room for each of them, and all of them are the text
pub record Roomy (l : Lists) (n : ℕ) : Type 0 where
  pub line : 0 + length (number_line 1) ≤ n
  pub head : 0 + length (head l) ≤ n
  pub signals : 0 + length (with_signals l) ≤ n
  pub links : 0 + length (with_links l) ≤ n
  pub text : with_links l ≡ text l
  pub few : length l.distances ≤ max_signals
  pub fewer : length l.outbound ≤ max_signals

-- so it is with 833 bytes for a street that passes the checks, as it was handed
pub roomy : {l l' : Lists} {n : ℕ} → l ≡ l' → plan_checks l' (signals l') ≡ Ok tt → max_sheet ≤ n → Roomy l n
roomy {l} {l'} {n} same passed long =
    let own : plan_checks l (signals l) ≡ Ok tt = rw same passed in
    let ok = in_limits l (signals l) own in
    let whole = text_sections l ok.counts.distances ok.counts.outbound in
    let links : 0 + length (with_links l) ≤ n = omega (arith, ap length whole, sheet_size l (signals l) own) in
    let front : 0 + length (with_signals l) ≤ n = room_first 0 n (with_signals l) (section_text l.outbound l.inbound) links in
    let top : 0 + length (head l) ≤ n = room_first 0 n (head l) (section_text l.distances l.reds) front in
    record {
      line = room_first 0 n (number_line 1) (number_line l.cycle) top;
      head = top;
      signals = front;
      links = links;
      text = whole;
      few = omega (arith, ok.counts);
      fewer = omega (arith, ok.counts);
    }
