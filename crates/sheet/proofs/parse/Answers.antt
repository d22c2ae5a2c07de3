-- `parse` meets its contract. Each way out follows the definition as far as it went: a fault is the definition's fault at the same step, and at
-- the end the arrays hold the columns that the definition read.
use mathlib.Core.Path.{◌≡◌, sym, ap, ◌∙◌}
use native.Mathlib.Omega.{arith}
use borrow.Author.Rules.{rules}
use Rattle.std.proofs.lemmas.Result.{err_from_is_err_and}
use Rattle.std.specs.Prelude.{Some, None, Result, Ok, Err, MatchResult}
use Rattle.street.specs.declared.Code.{Code}
use Rattle.street.specs.declared.Refusal.{Refusal}
use Rattle.sheet.specs.Steps.Sections.{cycle_section}
use Rattle.sheet.specs.Steps.Parsed.{to_reading}
use Rattle.sheet.proofs.Replies.{too_long, no_cycle, signals_fault, links_fault, bytes_left, nothing_left}
use Rattle.sheet.proofs.parse.Goals as goal

-- what a section came to, with a refusal made of its fault's code
abbrev Made : {A : Type 0} → Result A Code → Result A Refusal → Type 0
Made r m = MatchResult r (λ x. m ≡ Ok x) (λ e. m ≡ Err (record { code = e; place = 0 }))

-- so a refusal tells that the section has a fault, and of which code
faulty : {A : Type 0} (P : A → Type 0) (Q : Code → Type 0) (r : Result A Code) (m : Result A Refusal) (f : Refusal) → Made r m → m ≡ Err f → MatchResult r P Q → (e : Code) × (f ≡ record { code = e; place = 0 }) × Q e
faulty P Q (Ok x) m f h q s = absurd (grind arith)
faulty P Q (Err e) m f h q s = (e, grind arith, s)

same : {A : Type 0} (y : A) (m : Result A Refusal) (x : A) → m ≡ Ok y → m ≡ Ok x → y ≡ x
same y m x h q = grind arith

-- and what it came to otherwise is the section's
whole : {A : Type 0} (P : A → Type 0) (Q : Code → Type 0) (r : Result A Code) (m : Result A Refusal) (x : A) → Made r m → m ≡ Ok x → MatchResult r P Q → P x
whole P Q (Ok y) m x h q s = rw (sym (same y m x h q)) s
whole P Q (Err e) m x h q s = absurd (grind arith)

pub returns-then-bytes-gt-MAX_BYTES : goal.returns-then-bytes-gt-MAX_BYTES
returns-then-bytes-gt-MAX_BYTES c = ap to_reading (too_long c.args.bytes.now c.if-bytes-gt-MAX_BYTES.true) ∙ sym (ap Err c.fault.ensures)

pub returns-in_err-cycle : goal.returns-in_err-cycle
returns-in_err-cycle c =
    let p = err_from_is_err_and c.from_residual.result c.from_residual.ensures.1 in
    let none : cycle_section c.args.bytes.now ≡ None = grind arith in
    let f : p.0 ≡ record { code = _; place = 0 } = grind arith in
    rw p.1 (ap to_reading (no_cycle c.args.bytes.now c.if-bytes-gt-MAX_BYTES.false none) ∙ sym (ap Err f))

pub returns-in_err-signals : goal.returns-in_err-signals
returns-in_err-signals c =
    let p = err_from_is_err_and c.from_residual-in_err-signals.result c.from_residual-in_err-signals.ensures.1 in
    let first : cycle_section c.args.bytes.now ≡ Some (c.in_ok-cycle.cycle, c.in_ok-cycle.rest.now) = grind arith in
    let made : Made c.section.result c.map_err.result = search rules in
    let f = faulty _ _ c.section.result c.map_err.result c.in_err-signals.field-0.0 made c.in_err-signals.was c.section.ensures in
    rw p.1 (ap to_reading (signals_fault c.args.bytes.now c.if-bytes-gt-MAX_BYTES.false first f.2) ∙ sym (ap Err (p.2 ∙ f.1)))

pub returns-in_err-rest : goal.returns-in_err-rest
returns-in_err-rest c =
    let p = err_from_is_err_and c.from_residual-in_err-rest.result c.from_residual-in_err-rest.ensures.1 in
    let first : cycle_section c.args.bytes.now ≡ Some (c.in_ok-cycle.cycle, c.in_ok-cycle.rest.now) = grind arith in
    let made : Made c.section.result c.map_err.result = search rules in
    let rows = whole _ _ c.section.result c.map_err.result _ made c.in_ok-signals.was c.section.ensures in
    let made-2 : Made c.section-2.result c.map_err-2.result = search rules in
    let f = faulty _ _ c.section-2.result c.map_err-2.result c.in_err-rest.field-0.0 made-2 c.in_err-rest.was c.section-2.ensures in
    rw p.1 (ap to_reading (links_fault c.args.bytes.now c.if-bytes-gt-MAX_BYTES.false first rows f.2) ∙ sym (ap Err (p.2 ∙ f.1)))

pub returns-then-not-is_empty : goal.returns-then-not-is_empty
returns-then-not-is_empty c =
    let first : cycle_section c.args.bytes.now ≡ Some (c.in_ok-cycle.cycle, c.in_ok-cycle.rest.now) = grind arith in
    let made : Made c.section.result c.map_err.result = search rules in
    let rows = whole _ _ c.section.result c.map_err.result _ made c.in_ok-signals.was c.section.ensures in
    let made-2 : Made c.section-2.result c.map_err-2.result = search rules in
    let speeds = whole _ _ c.section-2.result c.map_err-2.result _ made-2 c.in_ok-rest.was c.section-2.ensures in
    ap to_reading (bytes_left c.args.bytes.now c.if-bytes-gt-MAX_BYTES.false first rows speeds (search rules)) ∙ sym (ap Err c.fault-then-not-is_empty.ensures)

pub returns : goal.returns
returns c =
    let first : cycle_section c.args.bytes.now ≡ Some (c.in_ok-cycle.cycle, c.in_ok-cycle.rest.now) = grind arith in
    let made : Made c.section.result c.map_err.result = search rules in
    let rows = whole _ _ c.section.result c.map_err.result _ made c.in_ok-signals.was c.section.ensures in
    let made-2 : Made c.section-2.result c.map_err-2.result = search rules in
    let speeds = whole _ _ c.section-2.result c.map_err-2.result _ made-2 c.in_ok-rest.was c.section-2.ensures in
    sym (nothing_left c.args.bytes.now c.if-bytes-gt-MAX_BYTES.false first rows speeds (search rules))
