-- A street whose checks passed is sound: what the search builds on, read off its padded arrays, and it is the method's street of the typed lists at every signal. Assumes nothing.
use Rattle.std.specs.Prelude.{Ok, Err}
use Prim.Native.Nat.{ℕ}
use mathlib.Core.Path.{◌≡◌, refl}
use native.Mathlib.Omega.{arith}
use Rattle.circle.proofs.Formulas.{Agree}
use Rattle.road.proofs.Paved.{get_or-padded, paved}
use Rattle.street.specs.Lists.{Lists, signals}
use Rattle.street.specs.Checks.{plan_checks}
use Rattle.street.specs.Streets.{timed}
use Rattle.street.specs.declared.Refusal.{Refusal}
use Rattle.street.specs.Verdicts.{Verdict, verdict_of, answered}
use Rattle.street.specs.Steps.{Checked, street_of, built, timed_street, Sound}
use Rattle.street.proofs.Passed.{in_limits}

module _ (l : Lists) (room : ℕ) (passed : plan_checks l room ≡ (Ok tt)) where
  pub sound : Sound (timed_street (street_of l))
  sound =
      let ok = in_limits l room passed in
      let road = paved (signals l) l.distances l.outbound l.inbound (omega arith) ok.outbound ok.inbound in
      record {
        some = road.some;
        few = road.few;
        out = road.out;
        back = road.back;
        onward = road.onward;
        shortest = ok.cycle.low;
        longest = ok.cycle.high;
        goes = λ k h. omega (arith, get_or-padded (signals l) (timed l).red k h, ok.reds k h, ok.cycle.low);
      }

  pub street_agrees : Agree (timed_street (street_of l)) (timed l)
  street_agrees =
      record {
        cycle = refl;
        signals = refl;
        red = λ k h. get_or-padded (signals l) (timed l).red k h;
        outbound = λ k h. get_or-padded (signals l) (timed l).outbound k h;
        inbound = λ k h. get_or-padded (signals l) (timed l).inbound k h;
      }

-- an answer tells what the checks came to
pub answer_tells : {A : Type 0} (v : Verdict) (a : A) → verdict_of (answered v a) ≡ v
answer_tells (Ok tt) a = refl
answer_tells (Err f) a = refl

-- what a call's answer tells where there is one: every check passed, and it is what was asked for
pub answered_ok : {A : Type 0} (v : Verdict) (a b : A) → answered v a ≡ Ok b → (v ≡ Ok tt) × (b ≡ a)
answered_ok (Ok u) a b e = (refl, cc)
answered_ok (Err f) a b e = (cc, cc)

-- so a street was made of lists that passed
pub built_ok : (l : Lists) (room : ℕ) (s : Checked) → built l room ≡ Ok s → (plan_checks l room ≡ Ok tt) × (s ≡ street_of l)
built_ok l room s e = answered_ok (plan_checks l room) (street_of l) s e

-- and where there is none: the refusal is the checks'
pub answered_err : {A : Type 0} (v : Verdict) (a : A) (f : Refusal) → answered v a ≡ Err f → v ≡ Err f
answered_err (Ok u) a f e = cc
answered_err (Err g) a f e = cc

pub built_err : (l : Lists) (room : ℕ) (f : Refusal) → built l room ≡ Err f → plan_checks l room ≡ Err f
built_err l room f e = answered_err (plan_checks l room) (street_of l) f e
