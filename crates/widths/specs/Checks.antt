-- The check of what a request adds to a plan's lists (01, 'Codes, in order of checking').
use Rattle.std.specs.Prelude.{ℕ, [], ◌∷◌, leb, Ok}
use Rattle.circle.specs.Method.{Timed}
use Rattle.circle.specs.Moved.{in_range}
use Rattle.street.specs.Limits.{max_platoon}
use Rattle.street.specs.Checks.{unless_at, unless, first_fault}
use Rattle.street.specs.declared.Code.TheVariants.{Platoon, Width}
use Rattle.street.specs.Verdicts.{Verdict}
use Rattle.traffic.specs.Volumes.{platoon_of}
use Rattle.traffic.specs.Checks.{volume_check}
use Rattle.widths.specs.declared.Request.{Request}
use Rattle.widths.specs.declared.Request.TheVariants.{Equal, Outbound, Inbound, Platoons, Volumes}

-- 8 PLATOON: a platoon's length against the limit, with the place of its direction
abbrev pub length_check : ℕ → ℕ → Verdict
length_check place long = unless_at place (leb long max_platoon) Platoon

-- both platoons, the outbound one first
unfoldable pub platoon_check : ℕ → ℕ → Verdict
platoon_check P Q = first_fault (length_check 1 P ∷ length_check 2 Q ∷ [])

-- 11 before 8: the volumes and their headway, and then the platoons that the volumes come to on this cycle (02, 2026-03)
unfoldable pub traffic_check : ℕ → ℕ → ℕ → ℕ → Verdict
traffic_check C out back h = first_fault (volume_check out back h ∷ platoon_check (platoon_of C h out) (platoon_of C h back) ∷ [])

-- 9 WIDTH: a requested width against its range
unfoldable pub width_check : Timed → ℕ → Verdict
width_check s w = unless (in_range s w) Width

-- the check of what a request adds to a plan's lists
abbrev pub request_check : Request → Timed → Verdict
request_check Equal s = (Ok tt)
request_check (Outbound w) s = width_check s w
request_check (Inbound w) s = width_check s w
request_check (Platoons P Q) s = platoon_check P Q
request_check (Volumes out back h) s = traffic_check s.cycle out back h
