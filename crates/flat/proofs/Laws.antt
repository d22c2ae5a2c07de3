-- The fields of C's structs by the numbers of the library's replies. Assumes nothing.
use Rattle.std.specs.Prelude.{Ok, Err}
use Prim.Native.Nat.{ℕ}
use mathlib.Core.Path.{◌≡◌, ap, ap₂}
use lib.IntN.{ℤ}
use Rattle.street.specs.Codes.{code_number, code_of, place_of}
use Rattle.street.specs.Verdicts.{verdict_of}
use Rattle.street.specs.declared.Refusal.{Refusal}
use Rattle.sheet.specs.Reading.{sheet_beside, Reading}
use Rattle.plans.specs.Answers.{no_plan}
use Rattle.plans.specs.declared.Plan.{Plan}
use Rattle.bands.specs.Measure.{no_band}
use Rattle.flat.specs.declared.CorbatanPlan.{CorbatanPlan}
use Rattle.flat.specs.declared.CorbatanVolumes.{CorbatanVolumes}
use Rattle.flat.specs.Flat.{plan_fields, flat_plan, measure_fields, flat_measure, flat_sheet, flat_reading, writing_fields, flat_writing}

-- a plan with another B
abbrev with_b : Plan → ℤ → Plan
with_b p z =
    record {
      reference = p.reference;
      b = z;
      outbound = p.outbound;
      inbound = p.inbound;
      rounded = p.rounded;
      starts = p.starts;
      ends = p.ends;
    }

-- a plan's fields, whose B is read off its bits
pub plan_fields_lem : (p : Plan) (b : ℤ) → b ≡ p.b → plan_fields (record { code = 0; place = 0; plan = with_b p b }) ≡ flat_plan (Ok p)
plan_fields_lem p b e = ap (λ z. plan_fields (record { code = 0; place = 0; plan = with_b p z })) e

-- a refusal's fields, by its number
pub plan-refused :
    (f : Refusal) (code : ℕ) → code ≡ code_number f.code →
    plan_fields (record { code = code; place = f.place; plan = no_plan }) ≡ flat_plan (Err f)
plan-refused f code e = ap (λ k. plan_fields (record { code = k; place = f.place; plan = no_plan })) e

pub measure_refused :
    (f : Refusal) (code : ℕ) → code ≡ code_number f.code →
    measure_fields (record { code = code; place = f.place; outbound = no_band; inbound = no_band }) ≡ flat_measure (Err f)
measure_refused f code e = ap (λ k. measure_fields (record { code = k; place = f.place; outbound = no_band; inbound = no_band })) e

pub writing_refused :
    (f : Refusal) (code : ℕ) → code ≡ code_number f.code →
    writing_fields (record { code = code; place = f.place; count = 0 }) ≡ flat_writing (Err f)
writing_refused f code e = ap (λ k. writing_fields (record { code = k; place = f.place; count = 0 })) e

-- the volumes beside a plan's fields
abbrev beside : CorbatanPlan → ℕ → ℕ → CorbatanVolumes
beside plan out back = record { plan = plan; outbound_volume = out; inbound_volume = back }

pub carried_fields : (out back : ℕ) (p q : CorbatanPlan) → p ≡ q → beside p out back ≡ beside q out back
carried_fields out back p q e = ap (λ x. beside x out back) e

-- a reading with its verdict in numbers
pub reading_flat :
    (r : Reading) (code place : ℕ) → code ≡ code_of (verdict_of r) → place ≡ place_of (verdict_of r) →
    flat_sheet code place (sheet_beside r) ≡ flat_reading r
reading_flat r code place k q = ap₂ (λ n p. flat_sheet n p (sheet_beside r)) k q
