-- `search::search` meets its contract: what is found on the street's first entries is found of it.
use Rattle.std.proofs.Common.{ℕ, ◌≡◌, List, sym, subst, length, take}
use native.Mathlib.Omega.{arith}
use Rattle.std.proofs.lemmas.List.{length-take-le}
use Rattle.street.specs.Steps.{Checked, timed_street}
use Rattle.search.specs.Steps.{Reduced, Searched, Finds}
use Rattle.search.proofs.Front.{front_found}
use Rattle.search.proofs.search.Goals as goal

pub returns : goal.returns
returns c =
    let s : Checked = record { road = c.s.inside.road; cycle = c.s.inside.cycle; reds = c.s.inside.reds } in
    let x : List ℕ = c.args.anchors.now in
    let anchors = subst (λ (t : Checked). Reduced (timed_street t) x) (sym c.s.view_is) c.requires in
    let count : length (take s.road.signals s.reds) ≡ s.road.signals = length-take-le s.road.signals s.reds (omega (arith, c.s.told, c.s.invariant.few)) in
    let finds = subst (λ (n : ℕ). Finds s.cycle n (take s.road.signals s.reds) (take s.road.signals x) c.reference.result) count c.reference.ensures in
    subst (λ (t : Checked). Searched (timed_street t) c.reference.result) c.s.view_is (front_found s x c.s.invariant anchors c.reference.result finds)
