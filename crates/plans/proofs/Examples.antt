-- The numbers of an answer worked out: a refusal has its code and place and is 0 elsewhere, a plan has code and place 0; and the volumes beside a plan, 0 beside a refusal. Assumes nothing.
use Rattle.std.specs.Prelude.{Ok, Err}
use mathlib.Core.Path.{◌≡◌, refl}
use lib.IntN.{pos, negsuc}
use Rattle.street.specs.declared.Code.TheVariants.{Speed}
use Rattle.traffic.proofs.Examples.{into_89, into_31}
use Rattle.plans.specs.Answers.{plan_numbers}
use Rattle.plans.specs.Volumes.{carried_of, LargestFor}
use Rattle.plans.specs.Answers.{Answer}
use Rattle.plans.specs.declared.Plan.{Plan}

-- a speed on link 3
abbrev refused : Answer
refused = Err (record { code = Speed; place = 3 })

abbrev moved : Plan
moved = record { reference = 2; b = negsuc 99; outbound = 200; inbound = 0; rounded = 1; starts = 5; ends = 15 }

refusal : plan_numbers refused ≡ record { code = 7; place = 3; plan = record { reference = 0; b = pos 0; outbound = 0; inbound = 0; rounded = 0; starts = 0; ends = 0 } }
refusal = refl

plan : plan_numbers (Ok moved) ≡ record { code = 0; place = 0; plan = moved }
plan = refl

-- at a cycle of 100 ticks and a headway of 20 an outbound width of 89 takes 801 vehicles an hour and an inbound one of 31 takes 279
abbrev uneven : Plan
uneven = record { reference = 1; b = pos 60; outbound = 89; inbound = 31; rounded = 0; starts = 11; ends = 131 }

volumes : LargestFor 100 20 (record { plan = uneven; outbound = 801; inbound = 279 })
volumes = (into_89, into_31)

-- beside a refusal both are 0
no_volumes :
    carried_of (Err (record { code = Speed; place = 3 }))
    ≡ record { plan = record { reference = 0; b = pos 0; outbound = 0; inbound = 0; rounded = 0; starts = 0; ends = 0 }; outbound = 0; inbound = 0 }
no_volumes = refl
