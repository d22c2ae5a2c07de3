-- How what each step of the reader found is what the whole sheet comes to. The steps follow the definition: the length, the first section, the signals, the links,
-- the end of the bytes; a fault of one is the answer, and else the definition goes on with the columns that the arrays hold. Assumes nothing.
use Prim.Native.Nat.{ℕ, ◌-◌, ◌≤◌, ◌<◌}
use mathlib.Core.Path.{◌≡◌, refl, sym, ap, ◌∙◌}
use mathlib.Core.List.{List, [], ◌∷◌}
use native.Mathlib.Omega.{arith}
use lib.ListN.{length}
use borrow.Author.Tests.{le-leb, lt-leb}
use Rattle.std.specs.Prelude.{Some, None, Ok, Err}
use Rattle.road.specs.Limits.{min_signals, max_signals}
use Rattle.street.specs.Lists.{Lists, typed}
use Rattle.street.specs.declared.Code.{Code}
use Rattle.street.specs.declared.Code.TheVariants as code
use Rattle.sheet.specs.Form.{max_bytes}
use Rattle.sheet.specs.Steps.Sections.{section, cycle_section, InArrays}
use Rattle.sheet.specs.Steps.Parsed.{parsed, after_cycle, after_signals, at_end, to_reading, reading_of}

pub too_long : (bytes : List ℕ) → max_bytes < length bytes → parsed bytes ≡ Err code.Sheet
unfolding parsed
too_long bytes h = rw (lt-leb (length bytes) max_bytes h) refl

module _ (bytes : List ℕ) (short : length bytes ≤ max_bytes) where
  pub no_cycle : cycle_section bytes ≡ None → parsed bytes ≡ Err code.Sheet
  unfolding parsed
  no_cycle e = rw (le-leb (length bytes) max_bytes short, e) refl

  -- after the first section
  module _ {cycle : ℕ} {rest : List ℕ} (first : cycle_section bytes ≡ Some (cycle, rest)) where
    from_cycle : parsed bytes ≡ after_cycle cycle rest
    unfolding parsed
    from_cycle = rw (le-leb (length bytes) max_bytes short, first) refl

    -- a fault among the signals is the answer
    pub signals_fault : {c : Code} → section min_signals max_signals rest ≡ Err c → parsed bytes ≡ Err c
    unfolding after_cycle
    signals_fault q = from_cycle ∙ rw q refl

    -- after the signals' section, whose columns are in two arrays
    module _ {n : ℕ} {distances reds next : List ℕ} (rows : InArrays (section min_signals max_signals rest) min_signals max_signals n distances reds next) where
      from-signals : parsed bytes ≡ after_signals cycle rows.lefts rows.rights next
      unfolding after_cycle
      from-signals = from_cycle ∙ rw rows.is refl

      same_section : section (length rows.rights - 1) (length rows.rights - 1) next ≡ section (n - 1) (n - 1) next
      same_section = ap (λ (k : ℕ). section (k - 1) (k - 1) next) rows.counted

      -- a fault among the links, one fewer than the signals, is the answer
      pub links_fault : {c : Code} → section (n - 1) (n - 1) next ≡ Err c → parsed bytes ≡ Err c
      unfolding after_signals
      links_fault q = from-signals ∙ rw (same_section ∙ q) refl

      -- after the links' section, whose columns are in two arrays too
      module _ {k : ℕ} {outbound inbound last : List ℕ} (speeds : InArrays (section (n - 1) (n - 1) next) (n - 1) (n - 1) k outbound inbound last) where
        abbrev numbers : Lists
        numbers = typed cycle rows.rights rows.lefts speeds.lefts speeds.rights

        from_links_lem : parsed bytes ≡ at_end numbers last
        unfolding after_signals
        from_links_lem = from-signals ∙ rw (same_section ∙ speeds.is) refl

        -- bytes after the last line break the form
        pub bytes_left : 0 < length last → parsed bytes ≡ Err code.Sheet
        bytes_left h = from_links_lem ∙ go last h
          where
            go : (end : List ℕ) → 0 < length end → at_end numbers end ≡ Err code.Sheet
            go [] h = absurd (omega arith)
            go (b ∷ end) h = refl

        -- with none left, the numbers of the sheet are those in the arrays
        pub nothing_left : length last ≡ 0 → Ok (record { signals = n; cycle = cycle; reds = reds; distances = distances; outbound = outbound; inbound = inbound }) ≡ reading_of bytes
        nothing_left h =
            ap Ok
            (λ i. record {
              signals = sym rows.counted i;
              cycle = cycle;
              reds = rows.in_right i;
              distances = rows.in_left i;
              outbound = speeds.in_left i;
              inbound = speeds.in_right i;
            })
            ∙ sym (ap to_reading (from_links_lem ∙ go last h))
          where
            go : (end : List ℕ) → length end ≡ 0 → at_end numbers end ≡ Ok numbers
            go [] h = refl
            go (b ∷ end) h = absurd (omega arith)
