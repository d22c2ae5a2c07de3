-- What a request comes to: a shift of the equal plan, and the two widths that are reported (01, 'Moving width'). Widths and platoons are in halves.
use Rattle.std.specs.Prelude.{ℕ, ◌+◌, cond, ltb, eqb}
use Rattle.circle.specs.Method.{Timed, equal_width}
use Rattle.circle.specs.Moved.{other_width, platoon_width}
use Rattle.traffic.specs.Volumes.{platoon_of}
use Rattle.widths.specs.declared.Request.{Request}
use Rattle.widths.specs.declared.Request.TheVariants as request
use Rattle.widths.specs.declared.Shift.{Shift}
use Rattle.widths.specs.declared.Shift.TheVariants.{Unmoved, Outbound, Inbound}

-- the platoon rule: nothing is moved for equal platoons, else the longer one's direction gets the width that the rule gives it (01, 'Platoons P outbound, Q inbound')
unfoldable pub platoon_shift : Timed → ℕ → ℕ → Shift
platoon_shift s P Q =
    cond (eqb P Q) Unmoved (cond (ltb Q P) (Outbound (platoon_width s P (P + Q))) (Inbound (platoon_width s Q (P + Q))))

-- what each request comes to: a requested width is taken as it is, and volumes are the platoons that they come to on the street's cycle (02, 2026-03)
abbrev pub shift_of : Request → Timed → Shift
shift_of request.Equal s = Unmoved
shift_of (request.Outbound w) s = Outbound w
shift_of (request.Inbound w) s = Inbound w
shift_of (request.Platoons P Q) s = platoon_shift s P Q
shift_of (request.Volumes out back h) s = platoon_shift s (platoon_of s.cycle h out) (platoon_of s.cycle h back)

-- the outbound width that is reported: the equal one, the requested one, or what that leaves
abbrev pub outbound_width : Shift → Timed → ℕ
outbound_width Unmoved s = equal_width s
outbound_width (Outbound w) s = w
outbound_width (Inbound w) s = other_width s w

-- and the inbound width
abbrev pub inbound_width : Shift → Timed → ℕ
inbound_width Unmoved s = equal_width s
inbound_width (Outbound w) s = other_width s w
inbound_width (Inbound w) s = w
