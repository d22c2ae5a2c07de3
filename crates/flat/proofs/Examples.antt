-- Replies as C has them, worked out with a number of its own in each field. Assumes nothing.
use Rattle.std.specs.Prelude.{Ok, Err}
use mathlib.Core.Path.{◌≡◌, refl}
use mathlib.Core.List.{[], ◌∷◌}
use lib.IntN.{pos, negsuc}
use lib.ListN.{replicate}
use Rattle.street.specs.declared.Code.TheVariants.{Speed, Offset, Survey}
use Rattle.flat.specs.Flat.{flat_plan, flat_carried, flat_measure, flat_reading, flat_writing, flat_text}

plan :
    flat_plan (Ok (record { reference = 2; b = negsuc 99; outbound = 200; inbound = 3; rounded = 1; starts = 5; ends = 15 }))
    ≡ record { code = 0; place = 0; reference = 2; b = negsuc 99; outbound = 200; inbound = 3; rounded = 1; starts = 5; ends = 15 }
plan = refl

refusal :
    flat_plan (Err (record { code = Speed; place = 3 }))
    ≡ record { code = 7; place = 3; reference = 0; b = pos 0; outbound = 0; inbound = 0; rounded = 0; starts = 0; ends = 0 }
refusal = refl

volumes :
    flat_carried (Ok (record { plan = record { reference = 2; b = negsuc 99; outbound = 200; inbound = 3; rounded = 1; starts = 5; ends = 15 }; outbound = 801; inbound = 279 }))
    ≡ record {
      plan = record { code = 0; place = 0; reference = 2; b = negsuc 99; outbound = 200; inbound = 3; rounded = 1; starts = 5; ends = 15 };
      outbound_volume = 801;
      inbound_volume = 279;
    }
volumes = refl

-- beside a refusal the volumes are 0
no_volumes :
    flat_carried (Err (record { code = Speed; place = 3 }))
    ≡ record {
      plan = record { code = 7; place = 3; reference = 0; b = pos 0; outbound = 0; inbound = 0; rounded = 0; starts = 0; ends = 0 };
      outbound_volume = 0;
      inbound_volume = 0;
    }
no_volumes = refl

measure :
    flat_measure (Ok (record { outbound = record { width = 16; start = 17 }; inbound = record { width = 6; start = 7 } }))
    ≡ record { code = 0; place = 0; outbound_width = 16; outbound_start = 17; inbound_width = 6; inbound_start = 7 }
measure = refl

unmeasured :
    flat_measure (Err (record { code = Offset; place = 2 }))
    ≡ record { code = 10; place = 2; outbound_width = 0; outbound_start = 0; inbound_width = 0; inbound_start = 0 }
unmeasured = refl

read :
    flat_reading (Ok (record { signals = 2; cycle = 100; reds = 40 ∷ 50 ∷ []; distances = 0 ∷ 30000 ∷ []; outbound = 10000 ∷ []; inbound = 15000 ∷ [] }))
    ≡ record { code = 0; place = 0; signals = 2; cycle = 100; reds = 40 ∷ 50 ∷ []; distances = 0 ∷ 30000 ∷ []; outbound = 10000 ∷ []; inbound = 15000 ∷ [] }
read = refl

-- a survey whose row 3 is bad: its place goes over to C, beside numbers that are all 0
unread :
    flat_reading (Err (record { code = Survey; place = 3 }))
    ≡ record {
      code = 12;
      place = 3;
      signals = 0;
      cycle = 0;
      reds = replicate 32 0;
      distances = replicate 32 0;
      outbound = replicate 32 0;
      inbound = replicate 32 0;
    }
unread = refl

sheet : flat_writing (Ok 36) ≡ record { code = 0; place = 0; count = 36 }
sheet = refl

unwritten : flat_writing (Err (record { code = Speed; place = 3 })) ≡ record { code = 7; place = 3; count = 0 }
unwritten = refl

text : flat_text (record { bytes = 49 ∷ 10 ∷ []; count = 2 }) ≡ record { count = 2; bytes = 49 ∷ 10 ∷ [] }
text = refl
