-- `write` meets its contract. The invariant: with the rest's last digits still to be written from the start up to the place, the list
-- becomes what it is to become. A turn writes the last of these.
use Rattle.std.proofs.Common.{◌-◌, ◌≤◌, ◌≡◌}
use Rattle.decimal.specs.Decimal.{decimal}
use Rattle.decimal.specs.Steps.{overwritten}
use Rattle.decimal.proofs.Digits.{last_digits}
use Rattle.decimal.proofs.write.Given as goal

abbrev pub invariant-loop-place : goal.invariant-loop-place
invariant-loop-place l =
    (l.at ≤ l.place) × (overwritten l.at (last_digits (l.place - l.at) l.rest) l.bytes ≡ overwritten l.at (decimal l.x) l.initial.bytes)
