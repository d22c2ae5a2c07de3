-- `street::checks::numbers` meets its contract: the counts that passed tell each list's length.
use Rattle.std.proofs.Common.{◌≡◌, ◌≤◌, sym, subst, Ok}
use native.Mathlib.Omega.{arith}
use Rattle.street.specs.Lists.{Lists}
use Rattle.street.specs.Checks.{counts}
use Rattle.street.proofs.CheckLaws.{counted}
use Rattle.street.proofs.checks.numbers.Goals as goal

pub red-requires : goal.red-requires
red-requires c =
    let told = subst (λ (l : Lists). (1 ≤ l.cycle) × (counts l ≡ Ok tt)) (sym c.street.view_is) c.requires in
    let n = counted _ _ _ _ told.1 in
    (told.0, n.most)

pub distance-requires : goal.distance-requires
distance-requires c =
    let told = subst (λ (l : Lists). counts l ≡ Ok tt) (sym c.street.view_is) c.requires.1 in
    let n = counted _ _ _ _ told in
    omega arith

pub speed-requires : goal.speed-requires
speed-requires c =
    let told = subst (λ (l : Lists). counts l ≡ Ok tt) (sym c.street.view_is) c.requires.1 in
    let n = counted _ _ _ _ told in
    (omega arith, omega arith)
