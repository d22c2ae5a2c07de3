-- `cycle` meets its contract: the first count is 1, and so the section goes on with the cycle.
use mathlib.Core.Path.{◌≡◌, refl, sym, ◌∙◌}
use mathlib.Core.List.{List}
use Prim.Native.Nat.{ℕ}
use Rattle.std.specs.Prelude.{Some}
use Rattle.decimal.specs.Lines.{line_end}
use Rattle.sheet.specs.Steps.Numbers.{number}
use Rattle.sheet.specs.Steps.Sections.{cycle_section}
use Rattle.sheet.proofs.cycle.Goals as goal

goes_on : (count : ℕ) (bytes rest : List ℕ) → Some (count, rest) ≡ number line_end bytes → count ≡ 1 → number line_end rest ≡ cycle_section bytes
unfolding cycle_section
goes_on count bytes rest e one = sym (rw (sym e, one) refl)

pub returns : goal.returns
returns c = c.number-2.ensures ∙ goes_on c.in-Some.count c.args.bytes.now c.in-Some.rest.now c.in-Some.ensures c.if-count-ne1.false
