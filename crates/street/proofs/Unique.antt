-- The contract of `Street::new` determines its reply: two replies that it allows for the same lists and room are equal. And what two equations, one for the reply and one for a
-- lent list, determine: a call's contract is such a pair wherever a list is lent. Assumes nothing.
use Rattle.std.specs.Prelude.{Result}
use Prim.Native.Nat.{ℕ}
use mathlib.Core.Path.{◌≡◌, sym, ◌∙◌}
use mathlib.Core.List.{List}
use Rattle.street.specs.Lists.{Lists}
use Rattle.street.specs.Steps.{Checked, built}
use Rattle.street.specs.declared.Refusal.{Refusal}

pub new_unique : (l : Lists) (room : ℕ) (r r' : Result Checked Refusal) → r ≡ built l room → r' ≡ built l room → r ≡ r'
new_unique l room r r' e e' = e ∙ sym e'

-- one reply, and one final list
pub record Same {A : Type 0} (r r' : A) (exit exit' : List ℕ) : Type 0 where
  pub reply : r ≡ r'
  pub after : exit ≡ exit'

pub same : {A : Type 0} {r r' answer : A} {exit exit' after : List ℕ} → r ≡ answer → r' ≡ answer → exit ≡ after → exit' ≡ after → Same r r' exit exit'
same e e' x x' = record { reply = e ∙ sym e'; after = x ∙ sym x' }
