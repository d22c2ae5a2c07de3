-- Where each direction sees the reds end, which offsets pass, and two unlike bands, worked out. Assumes nothing.
use Prim.Native.Nat.{◌*◌}
use mathlib.Core.Path.{◌≡◌, refl}
use mathlib.Core.List.{[], ◌∷◌}
use Rattle.circle.specs.Over.{first_below, list_below, all_below}
use Rattle.circle.specs.Method.{Timed, red_start}
use Rattle.circle.specs.Bands.{greatest_up_to, clear, stretch, width}
use Rattle.circle.proofs.Examples.Method.{three}
use Rattle.street.specs.Codes.{place_of}
use Rattle.bands.specs.Measure.{offset_check, measured_of}
use Rattle.bands.specs.Steps.{end_of}
use Rattle.bands.specs.declared.Direction.TheVariants.{Outbound, Inbound}

-- reds of 4, 5 and 6 ticks around 11, 0 and 2 end at 15, 5 and 8; less lags of 0, 4 and 10 outbound, and of 8, 2 and 0 inbound
out_ends : list_below 3 (end_of Outbound three (11 ∷ 0 ∷ 2 ∷ [])) ≡ 15 ∷ 1 ∷ 18 ∷ []
unfolding list_below
out_ends = refl

back_ends : list_below 3 (end_of Inbound three (11 ∷ 0 ∷ 2 ∷ [])) ≡ 7 ∷ 3 ∷ 8 ∷ []
unfolding list_below
back_ends = refl

-- on a cycle of 10 ticks an offset of 19 halves passes and one of 20 does not, by its signal's number
offset_places : place_of (offset_check 10 (0 ∷ 19 ∷ [])) ∷ place_of (offset_check 10 (0 ∷ 20 ∷ [])) ∷ [] ≡ 0 ∷ 2 ∷ []
unfolding offset_check first_below
offset_places = refl

-- two signals on a cycle of 5 ticks, with times of 1 outbound and 2 inbound: at 0 and 2 the outbound band is the wider one
abbrev unlike : Timed
unlike =
    record {
      cycle = 5;
      signals = 2;
      red = λ j. 1;
      outbound = λ j. j;
      inbound = λ j. 2 * j;
    }

unlike-widths : (measured_of unlike (0 ∷ 2 ∷ [])).outbound.width ∷ (measured_of unlike (0 ∷ 2 ∷ [])).inbound.width ∷ [] ≡ 8 ∷ 4 ∷ []
unfolding width greatest_up_to all_below stretch clear red_start
unlike-widths = refl
