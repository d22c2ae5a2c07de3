-- Requests worked out, on the streets of the method's examples: B is 5 and g is 8 at three signals. Assumes nothing.
use mathlib.Core.Path.{◌≡◌, refl}
use mathlib.Core.List.{[], ◌∷◌, map}
use Rattle.circle.specs.Over.{all_below, over_below}
use Rattle.circle.specs.Method.{u, pair_width, b, B, equal_width}
use Rattle.circle.specs.Moved.{g, in_range, other_width, found_width, platoon_width}
use Rattle.circle.proofs.Examples.Method.{three}
use Rattle.circle.proofs.Examples.Moved.{school}
use Rattle.street.specs.Codes.{code_of, place_of}
use Rattle.street.specs.Verdicts.{Verdict}
use Rattle.widths.specs.Moved.{platoon_shift, shift_of, outbound_width, inbound_width}
use Rattle.widths.specs.Steps.{portion_of}
use Rattle.traffic.specs.Checks.{volume_check}
use Rattle.widths.specs.Checks.{platoon_check, traffic_check, width_check, request_check}
use Rattle.widths.specs.declared.Request.{Request}
use Rattle.widths.specs.declared.Request.TheVariants as request
use Rattle.widths.specs.declared.Shift.{Shift}
use Rattle.widths.specs.declared.Shift.TheVariants.{Unmoved, Outbound, Inbound}

-- a width from 5 to 8 passes
ranges : map (λ (r : Request). code_of (request_check r three)) (request.Equal ∷ request.Outbound 4 ∷ request.Outbound 5 ∷ request.Inbound 8 ∷ request.Inbound 9 ∷ []) ≡ 0 ∷ 9 ∷ 0 ∷ 0 ∷ 9 ∷ []
unfolding width_check in_range g B b pair_width u over_below all_below
ranges = refl

-- a platoon of 100,000 passes, and 1 more does not; the outbound one is judged first
lengths : place_of (platoon_check 100000 100000) ∷ place_of (platoon_check 100001 100001) ∷ place_of (platoon_check 0 100001) ∷ [] ≡ 0 ∷ 1 ∷ 2 ∷ []
unfolding platoon_check
lengths = refl

-- on a cycle of 6,000 ticks, with vehicles 10 s apart: volumes are judged before the platoons that they come to, and 3,000 vehicles an hour are the most; on one of 10 ticks 10,000 pass
judged : map (λ (v : Verdict). code_of v) (traffic_check 6000 3000 3000 100 ∷ traffic_check 6000 3001 0 100 ∷ traffic_check 6000 3001 10001 100 ∷ traffic_check 6000 3001 0 101 ∷ traffic_check 10 10000 10000 100 ∷ []) ≡ 0 ∷ 8 ∷ 11 ∷ 11 ∷ 0 ∷ []
unfolding traffic_check volume_check platoon_check
judged = refl

judged_at : map (λ (v : Verdict). place_of v) (traffic_check 6000 3001 3001 100 ∷ traffic_check 6000 0 3001 100 ∷ traffic_check 6000 3001 10001 100 ∷ traffic_check 6000 3001 0 101 ∷ []) ≡ 1 ∷ 2 ∷ 2 ∷ 3 ∷ []
unfolding traffic_check volume_check platoon_check
judged_at = refl

-- a width is taken as it is
asked : map (λ (r : Request). shift_of r three) (request.Equal ∷ request.Outbound 6 ∷ request.Inbound 7 ∷ []) ≡ Unmoved ∷ Outbound 6 ∷ Inbound 7 ∷ []
asked = refl

-- 4 of 7 in 10 are 5 5/7, rounded down
portion : portion_of 10 4 7 ≡ 5
portion = refl

-- platoons: equal ones move nothing; the longer has 2B · 4/7 = 5 5/7, rounded down; above 2B it has its length, at most g
favoured : map (λ (r : Request). shift_of r three) (request.Platoons 4 4 ∷ request.Platoons 4 3 ∷ request.Platoons 3 4 ∷ request.Platoons 5 7 ∷ request.Platoons 20 10 ∷ []) ≡ Unmoved ∷ Outbound 5 ∷ Inbound 5 ∷ Inbound 7 ∷ Outbound 8 ∷ []
unfolding platoon_shift platoon_width found_width other_width g B b pair_width u over_below all_below
favoured = refl

-- on the school street a platoon that is alone has g, whichever way it goes, and one that is not leaves the other something
one_sided : map (λ (r : Request). shift_of r school) (request.Platoons 50 0 ∷ request.Platoons 0 50 ∷ request.Platoons 199 1 ∷ []) ≡ Outbound 400 ∷ Inbound 400 ∷ Outbound 199 ∷ []
unfolding platoon_shift platoon_width found_width other_width g B b pair_width u over_below all_below
one_sided = refl

-- volumes are the platoons that they come to: at a cycle of 600 ticks and a headway of 30 as many halves as vehicles, so that 50 and 0 are those of the school street; at a headway of 1 a single half each way
volumes : map (λ (r : Request). shift_of r school) (request.Volumes 50 0 30 ∷ request.Volumes 0 50 30 ∷ request.Volumes 199 1 30 ∷ request.Volumes 1 30 1 ∷ []) ≡ Outbound 400 ∷ Inbound 400 ∷ Outbound 199 ∷ Unmoved ∷ []
unfolding platoon_shift platoon_width found_width other_width g B b pair_width u over_below all_below
volumes = refl

-- what each direction then has: B, or the width, or what it leaves of 2B
out : map (λ (k : Shift). outbound_width k three) (Unmoved ∷ Outbound 8 ∷ Inbound 7 ∷ []) ≡ 5 ∷ 8 ∷ 3 ∷ []
unfolding equal_width other_width B b pair_width u over_below all_below
out = refl

back : map (λ (k : Shift). inbound_width k three) (Unmoved ∷ Outbound 8 ∷ Inbound 7 ∷ []) ≡ 5 ∷ 2 ∷ 7 ∷ []
unfolding equal_width other_width B b pair_width u over_below all_below
back = refl
