-- Laws of the whole way: what the text is for a refusal and for a plan. A refusal's
-- text has no offsets, and a plan's are the first entries of the lent list, whatever stands behind that list. Assumes nothing.
use Rattle.std.specs.Prelude.{Ok, Err}
use Prim.Native.Nat.{ℕ, min, ◌+◌, ◌-◌, ◌≤◌}
use mathlib.Core.Path.{◌≡◌, refl, sym, ap, ap₂, ◌∙◌, subst}
use mathlib.Core.List.{List, ◌++◌}
use native.Mathlib.Omega.{arith}
use lib.ListN.{length, take, drop, replicate, length-append, length-replicate, replicate-append-replicate}
use lib.Seq.{take-length, length-take-le, take-append-le, take-append_seam, take_at}
use Rattle.std.proofs.lemmas.List.{take_min, length-take}
use Rattle.circle.specs.Over.{list_below}
use Rattle.circle.proofs.Numbers.{length_list_below}
use Rattle.road.specs.Limits.{max_signals}
use Rattle.street.specs.Lists.{Lists, signals}
use Rattle.street.specs.Streets.{timed, m}
use Rattle.street.specs.Checks.{written}
use Rattle.street.specs.declared.Refusal.{Refusal}
use Rattle.street.specs.Verdicts.{Verdict}
use Rattle.sheet.specs.Reading.{sheet_of, lists_of, Reads}
use Rattle.sheet.specs.declared.Sheet.{Sheet}
use Rattle.sheet.proofs.ByForm.{so_too}
use Rattle.sheet.proofs.Held.{lists_back}
use Rattle.widths.specs.declared.Request.TheVariants.{Equal}
use Rattle.widths.specs.declared.Shift.TheVariants.{Unmoved}
use Rattle.offsets.specs.Moved.{moved_offset}
use Rattle.street.specs.Verdicts.{answered}
use Rattle.plans.specs.Requests.{moved_plan, request_checks, request_answer, request_after, Requested}
use Rattle.plans.specs.declared.Plan.{Plan}
use Rattle.plans.specs.Answers.{Answer}
use Rattle.printed.specs.declared.Printed.{Printed}
use Rattle.printed.specs.Text.{max_text, plan_line, offset_lines, refusal_line, text_of, Prints}
use Rattle.printed.specs.Way.{lent_of, plan_text, Answers, PrintsAnswer}

zeros : ℕ → List ℕ
zeros n = replicate n 0

-- the first entries of a list of zeros
take_zeros : (k n : ℕ) → k ≤ n → take k (zeros n) ≡ zeros k
unfolding zeros
take_zeros k n l =
    let e : k + (n - k) ≡ n = omega arith in
    ap (λ (i : ℕ). take k (zeros i)) (sym e)
    ∙ ap (take k) (sym (replicate-append-replicate k (n - k) 0))
    ∙ take_at (zeros k) (zeros (n - k)) k (length-replicate k 0)

-- what stands behind the lent list is not printed
behind :
    (v : Verdict) (p : Plan) (entries before rest : List ℕ)
    → text_of (answered v p) (take (length entries) (written v entries before ++ rest))
    ≡ text_of (answered v p) (take (length entries) (written v entries before))
behind (Ok u) p entries before rest =
    ap (λ xs. plan_line p ++ offset_lines xs)
    (take-append-le (length entries) (entries ++ drop (length entries) before) rest
    (omega (arith, length-append entries (drop (length entries) before))))
behind (Err f) p entries before rest = refl

-- no more than 32 entries are left out of none
capped : (n : ℕ) (xs : List ℕ) → n ≤ max_signals → take max_signals (take n xs) ≡ take n xs
capped n xs few =
    let all : min max_signals (length (take n xs)) ≡ length (take n xs) = omega (arith, length-take n xs) in
    sym (take_min max_signals (take n xs)) ∙ ap (λ (k : ℕ). take k (take n xs)) all ∙ take-length (take n xs)

-- the text of a plan as the code prints it: its answer, and the first of all the entries that the array now holds
pub planned_text :
    {l l' : Lists} {k n : ℕ} {r : Answer} {after : List ℕ} (room : ℕ) (rest : List ℕ)
    → l' ≡ l
    → k ≡ lent_of room
    → n ≡ signals l
    → n ≤ max_signals
    → Requested Equal l' (take k (replicate max_signals 0)) after r
    → text_of r (take max_signals (take n (after ++ rest))) ≡ plan_text l room
unfolding plan_text zeros
planned_text {l} {l'} {k} {n} {r} {after} room rest same lent size few called =
    let before : List ℕ = take k (replicate max_signals 0) in
    let ok : Requested Equal l before after r = rw (← same) called in
    let entries = list_below (signals l) (moved_offset Unmoved (timed l)) in
    let start : before ≡ zeros (lent_of room) = take_zeros k max_signals (omega arith) ∙ ap zeros lent in
    let long : length before ≡ lent_of room = ap length start ∙ length-replicate (lent_of room) 0 in
    let many : n ≡ length entries = size ∙ sym (length_list_below (signals l) (moved_offset Unmoved (timed l))) in
    ap (text_of r) (capped n (after ++ rest) few)
    ∙ ap₂ (λ a xs. text_of a (take n (xs ++ rest))) ok.reply ok.after
    ∙ ap (λ (i : ℕ). text_of (request_answer Equal l (length before)) (take i (request_after Equal l before ++ rest))) many
    ∙ behind (request_checks Equal l (length before)) (moved_plan Unmoved (timed l) (m l)) entries before rest
    ∙ ap (λ (i : ℕ). text_of (request_answer Equal l (length before)) (take i (request_after Equal l before))) (sym many ∙ size)
    ∙ ap₂ (λ (i : ℕ) xs. text_of (request_answer Equal l i) (take (signals l) (request_after Equal l xs))) long start

-- a sheet that was read is answered by its lists' plan
pub passed_answers : {bytes : List ℕ} (room : ℕ) {sheet : Sheet} → Reads bytes (Ok sheet) → Answers bytes room (plan_text (lists_of sheet) room)
passed_answers room {sheet} =
    so_too
    (λ l w e.
    let same : sheet ≡ sheet_of l = cc in
    ap (λ m. plan_text m room) (ap lists_of same ∙ lists_back l w))
    (λ c e. cc)

-- and a refusal by its line
pub refused_answers : {bytes : List ℕ} (room : ℕ) {f : Refusal} → Reads bytes (Err f) → Answers bytes room (refusal_line f)
refused_answers room {f} =
    so_too
    (λ l w e. cc)
    (λ c e.
    let same : f ≡ record { code = c; place = 0 } = cc in
    ap refusal_line same)

-- a text lies within its buffer
pub text_within : {t : List ℕ} {r : Printed} → Prints t r → r.count ≤ length r.bytes
text_within {t} {r} ok =
    omega (arith, ap (λ p. p.count) ok.reply, ap (λ p. length p.bytes) ok.reply, length-append t (drop (length t) (replicate max_text 0)))

pub text_count : {t : List ℕ} {r : Printed} → Prints t r → r.count ≡ length (take r.count r.bytes)
text_count {t} {r} ok = sym (length-take-le r.count r.bytes (text_within ok))

-- and the counted bytes are the text
pub text_is : {t : List ℕ} {r : Printed} → Prints t r → take r.count r.bytes ≡ t
text_is {t} {r} ok =
    ap (λ p. take p.count p.bytes) ok.reply ∙ take-append_seam t (drop (length t) (replicate max_text 0))

-- so they answer the sheet
pub sent : {bytes : List ℕ} {room : ℕ} {r : Printed} → PrintsAnswer bytes room r → Answers bytes room (take r.count r.bytes)
sent {bytes} {room} ok = subst (Answers bytes room) (sym (text_is ok.prints)) ok.answers
