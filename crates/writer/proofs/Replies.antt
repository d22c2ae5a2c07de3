-- How the parts of `write` make up its reply: with nothing lent first, its checks are a plan's over a list as long as the street, and then the room's. A reply with code 0
-- says that all passed, and then the street's text stands in the first bytes. Assumes nothing.
use Rattle.std.specs.Prelude.{Ok, Err}
use Prim.Native.Nat.{ℕ, ◌+◌, ◌≤◌}
use mathlib.Core.Path.{◌≡◌, refl, sym, ap, ap₂, ◌∙◌}
use mathlib.Core.List.{List}
use native.Mathlib.Nat.{zero-add}
use native.Mathlib.Omega.{arith}
use lib.ListN.{length, take, drop}
use lib.Seq.{take-append_seam}
use Rattle.street.specs.Lists.{Lists, signals}
use Rattle.street.specs.Checks.{or_next, room_check, plan_checks, written}
use Rattle.street.specs.declared.Refusal.{Refusal}
use Rattle.street.specs.Verdicts.{Verdict, answered}
use Rattle.street.proofs.CheckLaws.{room_enough, code_some}
use Rattle.street.proofs.Passed.{first_passed, rest_passed, street_then}
use Rattle.decimal.specs.Steps.{Writes}
use Rattle.sheet.specs.Form.{text}
use Rattle.writer.specs.Writing.{Writing, write_checks, WritesSheet, writing_numbers}
use Rattle.writer.specs.RoundTrips.{sheet_in}

-- the checks as the code makes them
pub checks_are : (l : Lists) (room : ℕ) → write_checks l room ≡ or_next (plan_checks l (signals l)) (room_check (length (text l)) room)
unfolding write_checks
checks_are l room = street_then l (room_check (length (text l)) room)

-- a street that is refused
pub street_refused :
    {l : Lists} {n : ℕ} {entry : List ℕ} {r : Writing} {f : Refusal}
    → n ≡ signals l
    → plan_checks l n ≡ Err f
    → r ≡ Err f
    → WritesSheet l entry entry r
street_refused {l} {n} {entry} {r} {f} own e is =
    let refused : plan_checks l (signals l) ≡ Err f = rw (← own) e in
    let all : write_checks l (length entry) ≡ Err f = rw (checks_are, refused) in
    record { reply = rw all is; after = rw all }

-- and one that passed, whose sheet was handed over
pub sheet_handed :
    {l : Lists} {n : ℕ} {sheet entry exit : List ℕ} {r : Writing}
    → n ≡ signals l
    → plan_checks l n ≡ Ok tt
    → sheet ≡ text l
    → r ≡ answered (room_check (length sheet) (length entry)) (length sheet)
    → exit ≡ written (room_check (length sheet) (length entry)) sheet entry
    → WritesSheet l entry exit r
sheet_handed {l} {n} {sheet} {entry} own e is reply after =
    let passed : plan_checks l (signals l) ≡ Ok tt = rw (← own) e in
    let all : write_checks l (length entry) ≡ room_check (length (text l)) (length entry) = rw (checks_are, passed) in
    record { reply = rw (all, ← is) reply; after = rw (all, ← is) after }

-- a text that was written from a buffer's start stands in its first bytes
pub text_made : {t before after : List ℕ} {count : ℕ} → Writes 0 t before after count → take count after ≡ t
text_made {t} {before} w =
    ap₂ (λ (k : ℕ) xs. take k xs) (w.next ∙ zero-add (length t)) w.after ∙ take-append_seam t (drop (0 + length t) before)

-- what a reply with code 0 says
pub record Done (l : Lists) (entry exit : List ℕ) (r : Writing) : Type 0 where
  pub passed : plan_checks l (signals l) ≡ Ok tt
  pub roomy : length (text l) ≤ length entry
  pub count : (writing_numbers r).count ≡ length (text l)
  pub sheet : sheet_in exit r ≡ text l

pub done : {l : Lists} {entry exit : List ℕ} {r : Writing} → WritesSheet l entry exit r → (writing_numbers r).code ≡ 0 → Done l entry exit r
done {l} {entry} {exit} {r} ok zero = go (write_checks l (length entry)) refl
  where
    go : (v : Verdict) → write_checks l (length entry) ≡ v → Done l entry exit r
    go (Err f) e =
        let refused : r ≡ Err f = ok.reply ∙ ap (λ v. answered v (length (text l))) e in
        absurd (omega (arith, code_some f.code, ap (λ x. (writing_numbers x).code) refused))
    go (Ok tt) e =
        let both = sym (checks_are l (length entry)) ∙ e in
        let reply : r ≡ Ok (length (text l)) = ok.reply ∙ ap (λ v. answered v (length (text l))) e in
        let after = ok.after ∙ ap (λ v. written v (text l) entry) e in
        record {
          passed = first_passed (plan_checks l (signals l)) _ both;
          roomy = room_enough (length (text l)) (length entry) (rest_passed (plan_checks l (signals l)) _ both);
          count = ap (λ x. (writing_numbers x).count) reply;
          sheet = ap₂ (λ xs x. sheet_in xs x) after reply ∙ take-append_seam (text l) (drop (length (text l)) entry);
        }

-- what was written lies within the list
pub wrote_within : {l : Lists} {entry exit : List ℕ} {count : ℕ} → WritesSheet l entry exit (Ok count) → count ≤ length entry
wrote_within ok = let d = done ok refl in omega (arith, d.roomy, d.count)
