-- What `measure` answers (01, 'Measuring'): the first fault of its checks, or each direction's width and the smallest start that attains it, by the instants that are clear.
use Rattle.std.specs.Prelude.{ℕ, ◌*◌, Bool, List, [], ◌∷◌, ◌++◌, length, get_or, leb, eqb, Ok, Err, Result}
use Rattle.circle.specs.Over.{first_below}
use Rattle.circle.specs.Method.{Timed}
use Rattle.circle.specs.Bands.{outbound_way, inbound_way}
use Rattle.street.specs.Lists.{Lists, signals}
use Rattle.street.specs.Codes.{code_of, place_of}
use Rattle.street.specs.Checks.{unless, fault_at, first_fault, cycle_check, counts, number_checks}
use Rattle.street.specs.Streets.{timed}
use Rattle.street.specs.declared.Code.TheVariants.{Count, Offset}
use Rattle.street.specs.Verdicts.{Verdict, verdict_of, answered}
use Rattle.stretches.specs.declared.Band.{Band}
use Rattle.stretches.specs.Stretches.{band_of}
use Rattle.bands.specs.declared.Measured.{Measured}
use Rattle.street.specs.declared.Refusal.{Refusal}

-- 2 COUNT, for the list of offsets: it has one for each signal (01, 'Codes, in order of checking')
unfoldable pub size_check : ℕ → ℕ → Verdict
size_check n offsets = unless (eqb offsets n) Count

-- whether the offset at an index is not below H, the cycle in halves (01, 'Red, departure, band')
abbrev pub bad_offset : ℕ → List ℕ → ℕ → Bool
bad_offset cycle offsets j = leb (2 * cycle) (get_or offsets j 0)

-- 10 OFFSET: the first such offset, by its signal's number (01, 'Codes, in order of checking')
unfoldable pub offset_check : ℕ → List ℕ → Verdict
offset_check cycle offsets = fault_at Offset (first_below (length offsets) (bad_offset cycle offsets))

-- the checks of a measure in their order, every list's length before any number (01, 'Codes, in order of checking')
unfoldable pub measure_checks : Lists → List ℕ → Verdict
measure_checks l offsets =
    first_fault
    ((counts l ∷ size_check (signals l) (length offsets) ∷ cycle_check l.cycle ∷ [])
    ++ number_checks l
    ++ (offset_check l.cycle offsets ∷ []))

-- the measure of a call, or its refusal
abbrev pub Measurement : Type 0
Measurement = Result Measured Refusal

-- both directions' bands under given offsets, outbound counted at signal 1 and inbound at signal n (01, 'Measuring')
abbrev pub measured_of : Timed → List ℕ → Measured
measured_of s offsets =
    record {
      outbound = band_of (outbound_way s (λ j. get_or offsets j 0));
      inbound = band_of (inbound_way s (λ j. get_or offsets j 0));
    }

-- the answer to a street's lists and offsets: the first fault there is, or the bands at rounded times (01, 'Measuring')
abbrev pub measurement_of : Lists → List ℕ → Measurement
measurement_of l offsets = answered (measure_checks l offsets) (measured_of (timed l) offsets)

-- an answer in numbers: the code and place of a refusal, and each band's width and start (01, 'Measuring' and 'Codes, in order of checking')
pub record BandNumbers : Type 0 where
  pub code : ℕ
  pub place : ℕ
  pub outbound : Band
  pub inbound : Band

-- the band that goes with a refusal, whose other numbers are 0 (01, 'Codes, in order of checking')
abbrev pub no_band : Band
no_band = record { width = 0; start = 0 }

-- the bands of an answer, if there are any
abbrev pub bands_of : Measurement → Measured
bands_of (Ok measured) = measured
bands_of (Err f) = record { outbound = no_band; inbound = no_band }

-- a measure has code and place 0, a refusal has no width and no start (01, 'Codes, in order of checking')
abbrev pub band_numbers : Measurement → BandNumbers
band_numbers a =
    record { code = code_of (verdict_of a); place = place_of (verdict_of a); outbound = (bands_of a).outbound; inbound = (bands_of a).inbound }
