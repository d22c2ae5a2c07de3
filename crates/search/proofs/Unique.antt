-- What the search answers is determined: on any sound street with these reds and anchors there is one reference and one B, and so one reply. Assumes nothing.
use Prim.Native.Nat.{ℕ}
use mathlib.Core.Path.{◌≡◌, sym, ◌∙◌}
use mathlib.Core.List.{List}
use Rattle.circle.specs.Method.{Timed, halves}
use Rattle.circle.proofs.Numbers.{pos_minus, sub_injective}
use Rattle.street.specs.Steps.{timed_with, Sound}
use Rattle.search.specs.Steps.{Reduced, Searched, Finds}
use Rattle.search.specs.declared.Candidate.{Candidate}

searched_unique : (s : Timed) (r r' : Candidate) → Searched s r → Searched s r' → r ≡ r'
searched_unique s r r' one other =
    let H = halves s in
    let signal : r.signal ≡ r'.signal = one.found ∙ sym other.found in
    let raised : r.raised ≡ r'.raised = sub_injective r.raised r'.raised H (sym (pos_minus r.raised H) ∙ one.width ∙ sym other.width ∙ pos_minus r'.raised H) in
    λ i. record { signal = signal i; raised = raised i }

-- two replies that the contract of `reference` allows
pub reference_unique :
    (cycle n : ℕ) (reds x : List ℕ) (outbound inbound : ℕ → ℕ) → Sound (timed_with cycle n reds outbound inbound) → Reduced (timed_with cycle n reds outbound inbound) x →
    (r r' : Candidate) → Finds cycle n reds x r → Finds cycle n reds x r' → r ≡ r'
reference_unique cycle n reds x outbound inbound sound anchors r r' one other =
    searched_unique (timed_with cycle n reds outbound inbound) r r' (one.each outbound inbound sound anchors) (other.each outbound inbound sound anchors)
