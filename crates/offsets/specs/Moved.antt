-- Each signal's offset under a shift of the equal plan (01, 'Moving width').
use Rattle.std.specs.Prelude.{ℕ}
use Rattle.circle.specs.Method.{Timed}
use Rattle.circle.specs.Moved.{outbound_lowering, inbound_lowering, lowered}
use Rattle.widths.specs.declared.Shift.{Shift}
use Rattle.widths.specs.declared.Shift.TheVariants.{Unmoved, Outbound, Inbound}

-- by how much the offset of the signal at an index is lowered: by nothing in the equal plan
abbrev pub lowering : Shift → Timed → ℕ → ℕ
lowering Unmoved s j = 0
lowering (Outbound w) s j = outbound_lowering s w j
lowering (Inbound w) s j = inbound_lowering s w j

-- that signal's offset: the equal plan's, lowered round the cycle
abbrev pub moved_offset : Shift → Timed → ℕ → ℕ
moved_offset shift s j = lowered s (lowering shift s) j
