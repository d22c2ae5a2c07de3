-- What bytes come to by the form is what the reader makes of them, both ways: each of the three cases of the form is the reader's, and the reader's outcome is one of
-- them. So the three exclude each other, one always holds, and there is a sheet for each. Assumes nothing.
use Prim.Native.Nat.{ℕ}
use mathlib.Core.Logic.{◌⊎◌, inl, inr, ⊎_elim}
use mathlib.Core.Path.{◌≡◌, refl, sym, ap, subst, ◌∙◌}
use mathlib.Core.List.{List}
use Rattle.std.specs.Prelude.{Result, Ok, Err}
use Rattle.street.specs.Lists.{Lists}
use Rattle.street.specs.declared.Code.{Code}
use Rattle.street.specs.declared.Code.TheVariants.{Sheet, Count}
use Rattle.sheet.specs.Form.{text, Writable, CountFault, ByForm}
use Rattle.sheet.specs.Reading.{Reading, passing, refusing, Reads}
use Rattle.sheet.specs.Steps.Parsed.{parsed, to_reading, reading_of}
use Rattle.sheet.proofs.Codes.{own_codes}
use Rattle.sheet.proofs.Backwards.{not_read}
use Rattle.sheet.proofs.Form.{text_is_accepted, accepted_is_text}
use Rattle.sheet.proofs.Counts.{refusals_differ, miscount_is_refused, refused_is_miscount}

-- what is said of an outcome of the reader
abbrev pub Comes : (Lists → Type 0) → (Code → Type 0) → Result Lists Code → Type 0
Comes street refusal (Ok l) = street l
Comes street refusal (Err c) = refusal c

-- no street's text, and no wrong count
pub record Broken (bytes : List ℕ) : Type 0 where
  pub no_street_lem : (l : Lists) → Writable l → bytes ≡ text l → ⊥
  pub no_miscount : CountFault bytes → ⊥

-- code 1 exactly where the bytes are no street's text and have no wrong count
pub refused_is_broken : (bytes : List ℕ) → parsed bytes ≡ Err Sheet → Broken bytes
refused_is_broken bytes q =
    record {
      no_street_lem = λ l w e. not_read Sheet l (sym q ∙ ap parsed e ∙ text_is_accepted l w);
      no_miscount = λ f. refusals_differ (sym q ∙ miscount_is_refused bytes f);
    }

pub broken_is_refused : (bytes : List ℕ) → Broken bytes → parsed bytes ≡ Err Sheet
broken_is_refused bytes b = go (parsed bytes) refl
  where
    go : (p : Result Lists Code) → parsed bytes ≡ p → p ≡ Err Sheet
    go (Ok l) q = let w = accepted_is_text bytes l q in absurd (b.no_street_lem l w.1 w.0)
    go (Err c) q =
        ⊎_elim (λ e. ap Err e) (λ e. absurd (b.no_miscount (refused_is_miscount bytes (q ∙ ap Err e)))) (own_codes bytes c q)

module _ {bytes : List ℕ} {street : Lists → Type 0} {refusal : Code → Type 0} where
  -- from the reader's outcome to the form
  pub by_form : Comes street refusal (parsed bytes) → ByForm bytes street refusal
  by_form o =
      record {
        of_text = λ l w e. subst (Comes street refusal) (ap parsed e ∙ text_is_accepted l w) o;
        of_miscount = λ f. subst (Comes street refusal) (miscount_is_refused bytes f) o;
        of_others = λ n m. subst (Comes street refusal) (broken_is_refused bytes (record { no_street_lem = n; no_miscount = m })) o;
      }

  -- and back
  pub by_outcome : ByForm bytes street refusal → Comes street refusal (parsed bytes)
  by_outcome f = go (parsed bytes) refl
    where
      go : (p : Result Lists Code) → parsed bytes ≡ p → Comes street refusal p
      go (Ok l) q = let w = accepted_is_text bytes l q in f.of_text l w.1 w.0
      go (Err c) q = ⊎_elim sheet count (own_codes bytes c q)
        where
          sheet : c ≡ Sheet → refusal c
          sheet e = let b = refused_is_broken bytes (q ∙ ap Err e) in subst refusal (sym e) (f.of_others b.no_street_lem b.no_miscount)

          count : c ≡ Count → refusal c
          count e = subst refusal (sym e) (f.of_miscount (refused_is_miscount bytes (q ∙ ap Err e)))

-- ---- three cases, of which one holds

-- the text of a street
pub record Written (bytes : List ℕ) : Type 0 where
  pub street : Lists
  pub writable : Writable street
  pub is_text : bytes ≡ text street

-- one of the three cases holds of any bytes
pub one_holds : (bytes : List ℕ) → Written bytes ⊎ (CountFault bytes ⊎ Broken bytes)
one_holds bytes = go (parsed bytes) refl
  where
    go : (p : Result Lists Code) → parsed bytes ≡ p → Written bytes ⊎ (CountFault bytes ⊎ Broken bytes)
    go (Ok l) q = let w = accepted_is_text bytes l q in inl (record { street = l; writable = w.1; is_text = w.0 })
    go (Err c) q =
        inr
        (⊎_elim (λ e. inr (refused_is_broken bytes (q ∙ ap Err e))) (λ e. inl (refused_is_miscount bytes (q ∙ ap Err e))) (own_codes bytes c q))

-- and no two of them; a broken sheet is neither of the others as it stands
pub no_two_hold : (bytes : List ℕ) → Written bytes → CountFault bytes → ⊥
no_two_hold bytes w f =
    not_read Count w.street (sym (miscount_is_refused bytes f) ∙ ap parsed w.is_text ∙ text_is_accepted w.street w.writable)

-- ---- what is said by the form

module _ {bytes : List ℕ} {street street' : Lists → Type 0} {refusal refusal' : Code → Type 0} where
  -- something else follows in each case
  pub so_too : ((l : Lists) → Writable l → street l → street' l) → ((c : Code) → refusal c → refusal' c) →
      ByForm bytes street refusal → ByForm bytes street' refusal'
  so_too f g o =
      record {
        of_text = λ l w e. f l w (o.of_text l w e);
        of_miscount = λ m. g Count (o.of_miscount m);
        of_others = λ n m. g Sheet (o.of_others n m);
      }

-- something follows in either case, and so of the bytes
pub either_way : {X : Type 0} {bytes : List ℕ} {street : Lists → Type 0} {refusal : Code → Type 0} →
    ((l : Lists) → Writable l → street l → X) → ((c : Code) → refusal c → X) → ByForm bytes street refusal → X
either_way {X} {bytes} {street} {refusal} f g o =
    ⊎_elim
    (λ w. f w.street w.writable (o.of_text w.street w.writable w.is_text))
    (λ r. ⊎_elim (λ m. g Count (o.of_miscount m)) (λ b. g Sheet (o.of_others b.no_street_lem b.no_miscount)) r)
    (one_holds bytes)

-- what equals something of the street, or else something of the code, is determined
pub same_by_form : {A : Type 0} (bytes : List ℕ) (of_street : Lists → A) (of_code : Code → A) (x y : A) →
    ByForm bytes (λ l. x ≡ of_street l) (λ c. x ≡ of_code c) → ByForm bytes (λ l. y ≡ of_street l) (λ c. y ≡ of_code c) → x ≡ y
same_by_form {A} bytes of_street of_code x y p q =
    ⊎_elim
    (λ w. p.of_text w.street w.writable w.is_text ∙ sym (q.of_text w.street w.writable w.is_text))
    (λ r.
    ⊎_elim (λ m. p.of_miscount m ∙ sym (q.of_miscount m))
    (λ b. p.of_others b.no_street_lem b.no_miscount ∙ sym (q.of_others b.no_street_lem b.no_miscount))
    r)
    (one_holds bytes)

-- the contract of what reads is met by the reader's own reading
pub reads : {bytes : List ℕ} {r : Reading} → r ≡ reading_of bytes → Reads bytes r
reads {bytes} {r} e = by_form (go (parsed bytes) e)
  where
    go : (p : Result Lists Code) → r ≡ to_reading p → Comes (λ l. r ≡ passing l) (λ c. r ≡ refusing c) p
    go (Ok l) e = e
    go (Err c) e = e
