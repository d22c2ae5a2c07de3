-- The check of volumes and their headway (02, 2026-03).
use Rattle.std.specs.Prelude.{ℕ, [], ◌∷◌, leb}
use Rattle.street.specs.Limits.{max_volume, min_headway, max_headway}
use Rattle.street.specs.Checks.{unless_at, first_fault, within}
use Rattle.street.specs.declared.Code.TheVariants.{Volume}
use Rattle.street.specs.Verdicts.{Verdict}

-- 11 VOLUME: the outbound volume is judged first, at place 1, the inbound one next, at 2, and the headway last, at 3
unfoldable pub volume_check : ℕ → ℕ → ℕ → Verdict
volume_check out back h =
    first_fault
    (unless_at 1 (leb out max_volume) Volume ∷ unless_at 2 (leb back max_volume) Volume ∷ unless_at 3 (within min_headway max_headway h) Volume ∷ [])
