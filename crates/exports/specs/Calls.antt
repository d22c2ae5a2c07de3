-- The contracts of the calls that lend a list or take a sheet: the reply is the library's in C's struct, and a list is as the library leaves it.
use Rattle.std.specs.Prelude.{◌≡◌, List, ℕ, length, Result}
use Rattle.road.specs.Limits.{max_signals}
use Rattle.street.specs.Lists.{Lists}
use Rattle.sheet.specs.Reading.{Reading, Reads}
use Rattle.writer.specs.Writing.{writing_of, bytes_after}
use Rattle.plans.specs.Requests.{request_answer, request_after}
use Rattle.plans.specs.Volumes.{Carries}
use Rattle.plans.specs.Answers.{Answer}
use Rattle.plans.specs.declared.Carried.{Carried}
use Rattle.street.specs.declared.Refusal.{Refusal}
use Rattle.widths.specs.declared.Request.{Request}
use Rattle.cabinets.specs.Calls.{seconds_answer, seconds_after}
use Rattle.printed.specs.declared.Printed.{Printed}
use Rattle.printed.specs.Way.{PrintsAnswer}
use Rattle.flat.specs.declared.CorbatanPlan.{CorbatanPlan}
use Rattle.flat.specs.declared.CorbatanVolumes.{CorbatanVolumes}
use Rattle.flat.specs.declared.CorbatanSheet.{CorbatanSheet}
use Rattle.flat.specs.declared.CorbatanWriting.{CorbatanWriting}
use Rattle.flat.specs.declared.CorbatanText.{CorbatanText}
use Rattle.flat.specs.Flat.{flat_plan, flat_carried, flat_reading, flat_writing, flat_text}

-- a plan's call: the answer in C's struct, and the lent list as the library leaves it
pub record FlatAnswer (answer : Answer) (list exit : List ℕ) (r : CorbatanPlan) : Type 0 where
  pub reply : r ≡ flat_plan answer
  pub after : exit ≡ list

-- `corbatan_equal`, `corbatan_outbound`, `corbatan_inbound` and `corbatan_platoons`
abbrev pub FlatRequested : Request → Lists → List ℕ → List ℕ → CorbatanPlan → Type 0
FlatRequested request l entry = FlatAnswer (request_answer request l (length entry)) (request_after request l entry)

-- the five calls for seconds, `corbatan_equal_seconds` and so on: the plan's own numbers, and the seconds in the lent list (02, 2026-06)
abbrev pub FlatSeconds : Request → Lists → List ℕ → List ℕ → CorbatanPlan → Type 0
FlatSeconds request l entry = FlatAnswer (seconds_answer request l (length entry)) (seconds_after request l entry)

-- `corbatan_volumes`: what the call with volumes answers, and what it leaves in the lent list (02, 2026-03)
pub record FlatCarries (out back h : ℕ) (l : Lists) (entry exit : List ℕ) (r : CorbatanVolumes) : Type 0 where
  pub carried : Result Carried Refusal
  pub carries : Carries out back h l entry exit carried
  pub reply : r ≡ flat_carried carried

-- `corbatan_read`: the reading of the bytes
pub record FlatReads (bytes : List ℕ) (r : CorbatanSheet) : Type 0 where
  pub reading : Reading
  pub reads : Reads bytes reading
  pub reply : r ≡ flat_reading reading

-- `corbatan_write`: what the writer answers, and what it leaves in the lent byte list (02, 2026-01)
pub record FlatWrites (l : Lists) (entry exit : List ℕ) (r : CorbatanWriting) : Type 0 where
  pub reply : r ≡ flat_writing (writing_of l (length entry))
  pub after : exit ≡ bytes_after l entry

-- `corbatan_print`: the printed answer to the bytes, over a list that has room for every street
pub record FlatPrints (bytes : List ℕ) (r : CorbatanText) : Type 0 where
  pub printed : Printed
  pub prints : PrintsAnswer bytes max_signals printed
  pub reply : r ≡ flat_text printed
