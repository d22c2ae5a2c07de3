-- The two round trips. A street that was written passed the checks, so it can be written by the form, and its text is read as that street and no other. A sheet that was read is the
-- text of the street whose numbers its arrays hold, so writing them gives that text again; a refused one holds no signals, which no call writes. Assumes nothing.
use Rattle.std.specs.Prelude.{Ok}
use mathlib.Core.Path.{◌≡◌, sym, ap, ◌∙◌}
use native.Mathlib.Omega.{arith}
use lib.ListN.{length}
use borrow.Author.Tests.{le-leb}
use Rattle.street.specs.Lists.{signals}
use Rattle.street.specs.Checks.{or_next, room_check}
use Rattle.street.specs.declared.Code.{Code}
use Rattle.street.proofs.Passed.{in_limits, with_room}
use Rattle.sheet.specs.Form.{text}
use Rattle.sheet.specs.Reading.{lists_of, sheet_beside, passing, refusing, Reading}
use Rattle.sheet.proofs.ByForm.{either_way}
use Rattle.sheet.proofs.Held.{lists_back}
use Rattle.street.specs.Verdicts.{answered}
use Rattle.writer.specs.Writing.{write_checks, writing_numbers}
use Rattle.writer.specs.RoundTrips.{WritesAll, ReadsBack, WritesAgain}
use Rattle.writer.proofs.Replies.{checks_are, Done, done}
use Rattle.writer.proofs.Sizes.{sheet_size, writable}

pub writes_all : WritesAll
unfolding room_check
writes_all l entry exit r street roomy ok =
    let passed = sym (with_room l) ∙ street in
    let short = sheet_size l (signals l) passed in
    let all : write_checks l (length entry) ≡ Ok tt =
    checks_are l (length entry)
    ∙ ap (λ v. or_next v (room_check (length (text l)) (length entry))) passed
    ∙ simp (le-leb (length (text l)) (length entry) (omega arith)) in
    let reply : r ≡ Ok (length (text l)) = ok.reply ∙ ap (λ v. answered v (length (text l))) all in
    (ap (λ x. (writing_numbers x).code) reply, omega (arith, short, ap (λ x. (writing_numbers x).count) reply))

pub reads_back : ReadsBack
reads_back l entry exit r reading ok zero reads =
    let d = done ok zero in
    reads.of_text l (writable l (signals l) d.passed) d.sheet

-- a refused sheet has no signals to write
no_signals : (c : Code) (reading : Reading) → reading ≡ refusing c → signals (lists_of (sheet_beside reading)) ≡ 0
no_signals c reading e = ap (λ x. signals (lists_of (sheet_beside x))) e

pub writes_again : WritesAgain
writes_again bytes reading entry exit r reads ok zero =
    either_way {street = λ l. (bytes ≡ text l) × (reading ≡ passing l)} {refusal = λ c. reading ≡ refusing c}
    (λ l w e.
    let same : lists_of (sheet_beside reading) ≡ l = ap (λ x. lists_of (sheet_beside x)) e.1 ∙ lists_back l w in
    d.sheet ∙ ap text same ∙ sym e.0)
    (λ c e. absurd (none (no_signals c reading e)))
    (record { of_text = λ l w e. (e, reads.of_text l w e); of_miscount = reads.of_miscount; of_others = reads.of_others })
  where
    d : Done (lists_of (sheet_beside reading)) entry exit r
    d = done ok zero

    none : signals (lists_of (sheet_beside reading)) ≡ 0 → ⊥
    none e =
        omega (arith, e, (in_limits (lists_of (sheet_beside reading)) (signals (lists_of (sheet_beside reading))) d.passed).counts.least)
