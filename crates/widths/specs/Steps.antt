-- Steps: what the library's functions say to each other and to the proofs. No contract of a public call cites it.
use Rattle.std.specs.Prelude.{ℕ, ◌*◌, ◌/◌, ◌≤◌, ◌≡◌}
use Rattle.circle.specs.Method.{Timed, B}
use Rattle.street.specs.Steps.{Sound}
use Rattle.search.specs.Steps.{signed_of}
use Rattle.widths.specs.Moved.{outbound_width, inbound_width}
use Rattle.widths.specs.declared.Shift.{Shift}
use Rattle.widths.specs.declared.Shift.TheVariants.{Unmoved, Outbound, Inbound}
use Rattle.widths.specs.declared.Widths.{Widths}

-- B of a sound street, raised by H; B is at most H
pub record Raised (s : Timed) (raised : ℕ) : Type 0 where
  pub sound : Sound s
  pub width : signed_of s raised ≡ B s
  pub small : raised ≤ 4 * s.cycle

-- a part of a whole, rounded down
abbrev pub portion_of : ℕ → ℕ → ℕ → ℕ
portion_of whole part sum = whole * part / sum

-- the width that a shift asks for, 0 for none
abbrev pub shift_width : Shift → ℕ
shift_width Unmoved = 0
shift_width (Outbound w) = w
shift_width (Inbound w) = w

-- the two widths of a shift's plan
abbrev pub widths_of : Shift → Timed → Widths
widths_of shift s = record { outbound = outbound_width shift s; inbound = inbound_width shift s }
