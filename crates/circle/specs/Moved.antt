-- Moving width from one direction to the other (01, 'Moving width'): the range of a request, how far each offset is lowered, what the other direction reports, and the
-- platoon rule. Widths, lowerings and platoons are in halves.
use Rattle.std.specs.Prelude.{ℕ, ◌*◌, ◌/◌, min, Bool, cond, false, ℤ, pos, ◌+ℤ◌, ◌-ℤ◌, eqb}
use Rattle.circle.specs.Signed.{leℤ, maxℤ, or_zero}
use Rattle.circle.specs.Over.{least_below}
use Rattle.circle.specs.Man.{man}
use Rattle.circle.specs.Method.{Timed, halves, has_red, u, B, reference, phase, offset}

-- g: the least H - 2r(j), the widest band that every signal lets through; one that rests in green lets H through (02, 2026-05)
unfoldable pub g : Timed → ℤ
g s = least_below s.signals (λ j. pos (halves s) -ℤ pos (2 * s.red j))

-- whether a requested width lies from the larger of 1 and B up to g
unfoldable pub in_range : Timed → ℕ → Bool
in_range s w = cond (leℤ (maxℤ (pos 1) (B s)) (pos w)) (leℤ (pos w) (g s)) false

-- u(j): the u of the phase that signal j has against the reference
unfoldable pub chosen : Timed → ℕ → ℕ
chosen s j = u s (reference s) j (phase s (reference s) j)

-- by how much signal j's offset is lowered for an outbound width w: u(j) - H + w - B, or nothing when that is negative; a resting signal is never lowered (02, 2026-05)
unfoldable pub outbound_lowering : Timed → ℕ → ℕ → ℕ
outbound_lowering s w j = cond (has_red s j) (or_zero (pos (chosen s j) -ℤ pos (halves s) +ℤ pos w -ℤ B s)) 0

-- and for an inbound width w: w + 2r(j) - u(j), or nothing when negative
unfoldable pub inbound_lowering : Timed → ℕ → ℕ → ℕ
inbound_lowering s w j = cond (has_red s j) (or_zero (pos w +ℤ pos (2 * s.red j) -ℤ pos (chosen s j))) 0

-- signal j's offset in the equal plan, lowered round the cycle
unfoldable pub lowered : Timed → (ℕ → ℕ) → ℕ → ℕ
lowered s lowering j = man (halves s) (pos (offset s (reference s) j) -ℤ pos (lowering j))

-- what the other direction reports beside a width w: 2B - w, or 0 when negative
unfoldable pub other_width : Timed → ℕ → ℕ
other_width s w = or_zero (B s +ℤ B s -ℤ pos w)

-- the width that the platoon rule finds for the larger platoon L, with the sum T of both: 2BL/T rounded down where T is at most 2B, L where T is above 2B; at most g
unfoldable pub found_width : Timed → ℕ → ℕ → ℕ
found_width s L T = min (cond (leℤ (pos T) (B s +ℤ B s)) (or_zero (B s +ℤ B s) * L / T) L) (or_zero (g s))

-- the width that the rule gives it: g where the width found leaves the lesser side 0, whatever T is (02, 2026-02), else the width found
unfoldable pub platoon_width : Timed → ℕ → ℕ → ℕ
platoon_width s L T = cond (eqb (other_width s (found_width s L T)) 0) (or_zero (g s)) (found_width s L T)
