-- Sheets that the definitions are run on: the sheet of 01, and one for each way to break it. Every equation holds by computation. Assumes nothing.
use Prim.Native.Nat.{ℕ}
use mathlib.Core.Logic.{inl, inr}
use mathlib.Core.Path.{◌≡◌, refl, sym}
use mathlib.Core.List.{List, [], ◌∷◌, ◌++◌}
use native.Mathlib.Omega.{arith}
use lib.ListN.{replicate}
use lib.Dec.{lit<, lit≤}
use Rattle.street.specs.Lists.{Lists}
use Rattle.street.specs.declared.Code.TheVariants as code
use Rattle.decimal.specs.Decimal.{digits_up_to}
use Rattle.sheet.specs.Form.{text, pair_lines, Writable, CountFault}
use Rattle.sheet.specs.Reading.{Reading, passing, refusing}
use Rattle.sheet.specs.Steps.Numbers.{digit_of, more, number}
use Rattle.sheet.specs.Steps.Sections.{pair, pairs, judged_count, section, cycle_section}
use Rattle.sheet.specs.Steps.Parsed.{reading_of, parsed, after_cycle, after_signals}
use Rattle.sheet.proofs.ByForm.{Written, Broken, refused_is_broken}

-- street A of 01
abbrev pub street_A : Lists
street_A =
    record { cycle = 100; reds = 40 ∷ 50 ∷ []; distances = 0 ∷ 30000 ∷ []; outbound = 10000 ∷ []; inbound = 15000 ∷ [] }

-- `1`, `100`, `2`
abbrev head : List ℕ
head = 49 ∷ 10 ∷ 49 ∷ 48 ∷ 48 ∷ 10 ∷ 50 ∷ 10 ∷ []

-- `0 40`, `30000 50`
abbrev signal_lines : List ℕ
signal_lines = 48 ∷ 32 ∷ 52 ∷ 48 ∷ 10 ∷ 51 ∷ 48 ∷ 48 ∷ 48 ∷ 48 ∷ 32 ∷ 53 ∷ 48 ∷ 10 ∷ []

-- `10000 15000`
abbrev link_line : List ℕ
link_line = 49 ∷ 48 ∷ 48 ∷ 48 ∷ 48 ∷ 32 ∷ 49 ∷ 53 ∷ 48 ∷ 48 ∷ 48 ∷ 10 ∷ []

-- the sheet of street A, as 01 prints it
abbrev pub sheet_A : List ℕ
sheet_A = head ++ signal_lines ++ 49 ∷ 10 ∷ link_line

-- street A can be written, its text is that sheet, and the reader hands its numbers back
pub writable_a : Writable street_A
unfolding text pair_lines digits_up_to
writable_a =
    record {
      some = lit≤ tt;
      few = lit≤ tt;
      distances = refl;
      outbound = refl;
      inbound = refl;
      short_cycle = lit< tt;
      short_reds = (lit< tt, (lit< tt, tt));
      short_distances = (lit< tt, (lit< tt, tt));
      short_outbound = (lit< tt, tt);
      short_inbound = (lit< tt, tt);
      fits = lit≤ tt;
    }

pub text_a : text street_A ≡ sheet_A
unfolding text pair_lines digits_up_to
text_a = refl

pub reading_a : reading_of sheet_A ≡ passing street_A
unfolding parsed after_cycle after_signals cycle_section section judged_count pairs pair number more digit_of
reading_a = refl

-- bytes, and what the reader answers for them
record Run : Type 0 where
  bytes : List ℕ
  answer : Reading

abbrev gives : List ℕ → Reading → Run
gives bytes answer = record { bytes = bytes; answer = answer }

abbrev Hold : List Run → Type 0
Hold [] = Unit
Hold (r ∷ rs) = (reading_of r.bytes ≡ r.answer) × Hold rs

-- `1`, `100` and then other bytes
abbrev counted : List ℕ → List ℕ
counted bytes = 49 ∷ 10 ∷ 49 ∷ 48 ∷ 48 ∷ 10 ∷ bytes

-- in this order: no bytes; 2,049 bytes; a first count of 2 before a signal count of 33; 33 without its line end, with a space, with a leading zero and with
-- its line end; 0 signals; 2 links, and 0 links, between 2 signals; a byte after the last line; a cycle of 8 digits before a signal
-- count of 33, and one of 9 digits; two spaces; a carriage return; a line without its second number
abbrev runs : List Run
runs =
    gives [] (refusing code.Sheet)
    ∷ gives (replicate 2049 49) (refusing code.Sheet)
    ∷ gives (50 ∷ 10 ∷ 49 ∷ 48 ∷ 48 ∷ 10 ∷ 51 ∷ 51 ∷ 10 ∷ []) (refusing code.Sheet)
    ∷ gives (counted (51 ∷ 51 ∷ [])) (refusing code.Sheet)
    ∷ gives (counted (51 ∷ 51 ∷ 32 ∷ [])) (refusing code.Sheet)
    ∷ gives (counted (48 ∷ 51 ∷ 51 ∷ 10 ∷ [])) (refusing code.Sheet)
    ∷ gives (counted (51 ∷ 51 ∷ 10 ∷ [])) (refusing code.Count)
    ∷ gives (counted (48 ∷ 10 ∷ [])) (refusing code.Count)
    ∷ gives (head ++ signal_lines ++ 50 ∷ 10 ∷ link_line) (refusing code.Count)
    ∷ gives (head ++ signal_lines ++ 48 ∷ 10 ∷ link_line) (refusing code.Count)
    ∷ gives (sheet_A ++ 10 ∷ []) (refusing code.Sheet)
    ∷ gives (49 ∷ 10 ∷ replicate 8 57 ++ 10 ∷ 51 ∷ 51 ∷ 10 ∷ []) (refusing code.Count)
    ∷ gives (49 ∷ 10 ∷ replicate 9 57 ++ 10 ∷ 51 ∷ 51 ∷ 10 ∷ []) (refusing code.Sheet)
    ∷ gives (counted (49 ∷ 10 ∷ 48 ∷ 32 ∷ 32 ∷ 52 ∷ 10 ∷ 48 ∷ 10 ∷ [])) (refusing code.Sheet)
    ∷ gives (49 ∷ 13 ∷ 10 ∷ []) (refusing code.Sheet)
    ∷ gives (counted (49 ∷ 10 ∷ 48 ∷ 10 ∷ 48 ∷ 10 ∷ [])) (refusing code.Sheet)
    ∷ []

pub runs_hold : Hold runs
unfolding parsed after_cycle after_signals cycle_section section judged_count pairs pair number more digit_of
runs_hold =
    (refl, (refl, (refl, (refl, (refl, (refl, (refl, (refl, (refl, (refl, (refl, (refl, (refl, (refl, (refl, (refl, tt))))))))))))))))

-- ---- a sheet for each of the three cases of the form

pub written_a : Written sheet_A
written_a = record { street = street_A; writable = writable_a; is_text = sym text_a }

-- 33 signals, and then a carriage return, which is no part of any line
pub signals_miscounted : CountFault (counted (51 ∷ 51 ∷ 10 ∷ 13 ∷ []))
unfolding digits_up_to
signals_miscounted =
    record {
      fits = lit≤ tt;
      miscount =
          inl
          record { cycle = 100; count = 33; rest = 13 ∷ []; short_cycle = lit< tt; short_count = lit< tt; wrong = inr (lit< tt); form = refl };
    }

-- 2 links between 2 signals
pub links_miscounted : CountFault (head ++ signal_lines ++ 50 ∷ 10 ∷ link_line)
unfolding pair_lines digits_up_to
links_miscounted =
    record {
      fits = lit≤ tt;
      miscount =
          inr
          record {
            cycle = 100;
            distances = 0 ∷ 30000 ∷ [];
            reds = 40 ∷ 50 ∷ [];
            count = 2;
            rest = link_line;
            some = lit≤ tt;
            few = lit≤ tt;
            even = refl;
            short_cycle = lit< tt;
            short_distances = (lit< tt, (lit< tt, tt));
            short_reds = (lit< tt, (lit< tt, tt));
            short_count = lit< tt;
            wrong = λ e. omega arith;
            form = refl;
          };
    }

-- a byte after the last line
pub broken_a : Broken (sheet_A ++ 10 ∷ [])
unfolding parsed after_cycle after_signals cycle_section section judged_count pairs pair number more digit_of
broken_a = refused_is_broken (sheet_A ++ 10 ∷ []) refl
