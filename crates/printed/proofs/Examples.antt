-- The text run on examples: each side computes to the same bytes. Assumes nothing.
use Rattle.std.specs.Prelude.{Ok, Err}
use mathlib.Core.Path.{◌≡◌, refl}
use mathlib.Core.List.{[], ◌∷◌}
use lib.IntN.{pos, negsuc}
use Rattle.street.specs.declared.Code.TheVariants as code
use Rattle.decimal.specs.Decimal.{digits_up_to}
use Rattle.printed.specs.Text.{offset_lines, text_of}

-- 01's example: `1 60 60 60 0`, `0` and `10`
street_a :
    text_of
    (Ok record { reference = 1; b = pos 60; outbound = 60; inbound = 60; rounded = 0; starts = 40; ends = 160 })
    (0 ∷ 10 ∷ [])
    ≡ 49 ∷ 32 ∷ 54 ∷ 48 ∷ 32 ∷ 54 ∷ 48 ∷ 32 ∷ 54 ∷ 48 ∷ 32 ∷ 48 ∷ 10
    ∷ 48 ∷ 10
    ∷ 49 ∷ 48 ∷ 10
    ∷ []
unfolding digits_up_to offset_lines
street_a = refl

-- a plan with B -100 and no offset: `1 -100 0 0 0`
negative :
    text_of
    (Ok record { reference = 1; b = negsuc 99; outbound = 0; inbound = 0; rounded = 0; starts = 500; ends = 700 })
    []
    ≡ 49 ∷ 32 ∷ 45 ∷ 49 ∷ 48 ∷ 48 ∷ 32 ∷ 48 ∷ 32 ∷ 48 ∷ 32 ∷ 48 ∷ 10 ∷ []
unfolding digits_up_to offset_lines
negative = refl

-- a refused speed on link 3: `refused 7 3`
speed :
    text_of (Err record { code = code.Speed; place = 3 }) []
    ≡ 114 ∷ 101 ∷ 102 ∷ 117 ∷ 115 ∷ 101 ∷ 100 ∷ 32 ∷ 55 ∷ 32 ∷ 51 ∷ 10 ∷ []
unfolding digits_up_to
speed = refl
