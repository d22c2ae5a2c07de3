-- The library's replies as C's flat structs: the numbers that the library's own definitions give each reply, one field for each.
use Rattle.std.specs.Prelude.{ℕ, Result, Ok, Err}
use Rattle.street.specs.Codes.{code_of, place_of}
use Rattle.street.specs.Verdicts.{verdict_of}
use Rattle.street.specs.declared.Refusal.{Refusal}
use Rattle.sheet.specs.declared.Sheet.{Sheet}
use Rattle.sheet.specs.Reading.{Reading, sheet_beside}
use Rattle.writer.specs.Writing as writer
use Rattle.writer.specs.Writing.{Writing}
use Rattle.plans.specs.Answers as plans
use Rattle.plans.specs.Answers.{Answer}
use Rattle.plans.specs.declared.Carried.{Carried}
use Rattle.bands.specs.Measure as bands
use Rattle.bands.specs.Measure.{Measurement}
use Rattle.printed.specs.declared.Printed.{Printed}
use Rattle.flat.specs.declared.CorbatanPlan.{CorbatanPlan}
use Rattle.flat.specs.declared.CorbatanVolumes.{CorbatanVolumes}
use Rattle.flat.specs.declared.CorbatanMeasure.{CorbatanMeasure}
use Rattle.flat.specs.declared.CorbatanSheet.{CorbatanSheet}
use Rattle.flat.specs.declared.CorbatanWriting.{CorbatanWriting}
use Rattle.flat.specs.declared.CorbatanText.{CorbatanText}

-- a plan's numbers, or a refusal's
abbrev pub plan_fields : plans.PlanNumbers → CorbatanPlan
plan_fields n =
    record {
      code = n.code;
      place = n.place;
      reference = n.plan.reference;
      b = n.plan.b;
      outbound = n.plan.outbound;
      inbound = n.plan.inbound;
      rounded = n.plan.rounded;
      starts = n.plan.starts;
      ends = n.plan.ends;
    }

abbrev pub flat_plan : Answer → CorbatanPlan
flat_plan a = plan_fields (plans.plan_numbers a)

-- the same, and the largest volumes beside it, 0 and 0 beside a refusal (02, 2026-03)
abbrev pub flat_carried : Result Carried Refusal → CorbatanVolumes
flat_carried (Ok c) = record { plan = flat_plan (Ok c.plan); outbound_volume = c.outbound; inbound_volume = c.inbound }
flat_carried (Err f) = record { plan = flat_plan (Err f); outbound_volume = 0; inbound_volume = 0 }

-- a measure's numbers, or a refusal's
abbrev pub measure_fields : bands.BandNumbers → CorbatanMeasure
measure_fields n =
    record {
      code = n.code;
      place = n.place;
      outbound_width = n.outbound.width;
      outbound_start = n.outbound.start;
      inbound_width = n.inbound.width;
      inbound_start = n.inbound.start;
    }

abbrev pub flat_measure : Measurement → CorbatanMeasure
flat_measure a = measure_fields (bands.band_numbers a)

-- a sheet's numbers beside a code and a place
abbrev pub flat_sheet : ℕ → ℕ → Sheet → CorbatanSheet
flat_sheet code place s =
    record {
      code = code;
      place = place;
      signals = s.signals;
      cycle = s.cycle;
      reds = s.reds;
      distances = s.distances;
      outbound = s.outbound;
      inbound = s.inbound;
    }

-- the sheet of a reading with the code and place of its refusal, 0 and 0 where there is none
abbrev pub flat_reading : Reading → CorbatanSheet
flat_reading r = flat_sheet (code_of (verdict_of r)) (place_of (verdict_of r)) (sheet_beside r)

-- a written sheet's numbers, or a refusal's (02, 2026-01)
abbrev pub writing_fields : writer.WritingNumbers → CorbatanWriting
writing_fields n = record { code = n.code; place = n.place; count = n.count }

abbrev pub flat_writing : Writing → CorbatanWriting
flat_writing a = writing_fields (writer.writing_numbers a)

abbrev pub flat_text : Printed → CorbatanText
flat_text t = record { count = t.count; bytes = t.bytes }
