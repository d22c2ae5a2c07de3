-- Rests of some bytes: one told by its place, and a rest of a rest. Assumes nothing.
use Rattle.std.proofs.Common.{◌≡◌, ℕ, ◌+◌, List, drop, Option, Some, None, IfSome, ap, ◌∙◌}
use Rattle.std.proofs.lemmas.List.{drop-drop}
use Rattle.lines.specs.Steps.{IsRest}

pub rest_is : (bytes rest : List ℕ) (place : ℕ) → rest ≡ drop place bytes → IsRest bytes rest
rest_is bytes rest place e = record { place = place; stands = e }

pub rest_trans : {bytes rest below : List ℕ} → IsRest bytes rest → IsRest rest below → IsRest bytes below
rest_trans {bytes} r b = record {
  place = r.place + b.place;
  stands = b.stands ∙ ap (drop b.place) r.stands ∙ drop-drop b.place r.place bytes;
}

-- the same of an answer that has one, where there is an answer
pub some_rest : {X : Type 0} {bytes rest : List ℕ} (below : X → List ℕ) (o : Option X) →
    IsRest bytes rest → IfSome o (λ x. IsRest rest (below x)) → IfSome o (λ x. IsRest bytes (below x))
some_rest below None r h = h
some_rest below (Some x) r h = rest_trans r h
