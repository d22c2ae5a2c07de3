-- `sections` meets its contract: the first section's two lines and then the other two sections are the street's text, which a list of 833 bytes has room for. Each part goes
-- behind the one before it.
use native.Mathlib.Omega.{arith}
use mathlib.Core.Path.{refl, ap, ◌∙◌}
use Rattle.decimal.proofs.Writing.{room_left, writes_twice, writes_as}
use Rattle.sheet.specs.Form.{number_line, text}
use Rattle.writer.specs.Steps.{section_text}
use Rattle.writer.proofs.Sizes.{roomy}
use Rattle.writer.proofs.sections.Goals as goal

pub write_ended-first-requires : goal.write_ended-first-requires
write_ended-first-requires c = (roomy refl c.requires.0 c.requires.1).line

pub write_ended-signals-requires : goal.write_ended-signals-requires
write_ended-signals-requires c =
    let all = roomy c.street.view_is c.requires.0 c.requires.1 in
    room_left (number_line c.street.inside.cycle) c.write_ended-first.ensures all.head

pub section-links-requires : goal.section-links-requires
section-links-requires c =
    let all = roomy c.street.view_is c.requires.0 c.requires.1 in
    let head = writes_twice (omega arith) c.write_ended-first.ensures c.write_ended-signals.ensures in
    (room_left (section_text c.street.inside.distances.now c.street.inside.reds.now) head all.signals, all.few)

pub section-requires : goal.section-requires
section-requires c =
    let all = roomy c.street.view_is c.requires.0 c.requires.1 in
    let head = writes_twice (omega arith) c.write_ended-first.ensures c.write_ended-signals.ensures in
    let signals = writes_twice (omega arith) head c.section-links.ensures in
    (room_left (section_text c.street.inside.outbound.now c.street.inside.inbound.now) signals all.links, all.fewer)

pub returns : goal.returns
returns c =
    let all = roomy c.street.view_is c.requires.0 c.requires.1 in
    let head = writes_twice (omega arith) c.write_ended-first.ensures c.write_ended-signals.ensures in
    let signals = writes_twice (omega arith) head c.section-links.ensures in
    writes_as (all.text ∙ ap text c.street.view_is) (writes_twice (omega arith) signals c.section.ensures)
