use Rattle.std.proofs.Common.{rules, ℕ, ◌≡◌, ◌+◌, ap, ◌∙◌, get_or}
use lib.IntN.{pos, ◌-ℤ◌}
use Rattle.circle.specs.Man.{man}
use Rattle.circle.specs.Method.{Timed, halves}
use Rattle.street.specs.Steps.{timed_street}
use Rattle.bands.specs.Steps.{end_of}
use Rattle.bands.proofs.ends.ends.Goals as goal

pub loop-j-preserved : goal.loop-j-preserved
loop-j-preserved c =
    let s : Timed = timed_street (record { road = c.s.inside.road; cycle = c.s.inside.cycle; reds = c.s.inside.reds }) in
    let offsets = c.args.offsets.now in
    let j = c.loop-j.j in
    let value : c.remainder.result ≡ end_of c.args.direction s offsets j = c.remainder.ensures ∙ ap (λ (k : ℕ). man (halves s) (pos (get_or offsets j 0 + s.red j) -ℤ pos k)) c.lag-after.ensures in
    search rules
