-- The search sees no more of a street than its first entries: on these the street with its arrays cut off is the street, so that what is found there is found of it. Assumes nothing.
use Rattle.std.proofs.Common.{ℕ, ◌<◌, ◌≡◌, List, sym, refl, ap, subst, ◌∙◌, take, ◌+◌, ◌*◌}
use lib.IntN.{pos, ◌-ℤ◌}
use Rattle.circle.specs.Man.{man}
use Rattle.std.proofs.lemmas.List.{get_or-take}
use Rattle.circle.specs.Method.{Timed}
use Rattle.circle.proofs.Formulas.{Agree, B_agree, reference_agree}
use Rattle.street.specs.Steps.{Checked, timed_with, timed_street, Sound}
use Rattle.search.specs.Steps.{Reduced, Searched, Finds}
use Rattle.search.specs.declared.Candidate.{Candidate}

module _ (s : Checked) (x : List ℕ) (sound : Sound (timed_street s)) (anchors : Reduced (timed_street s) x) where
  -- the street by its first reds
  abbrev cut : Timed
  cut = timed_with s.cycle s.road.signals (take s.road.signals s.reds) (timed_street s).outbound (timed_street s).inbound

  red_of : (k : ℕ) → k < s.road.signals → cut.red k ≡ (timed_street s).red k
  red_of k l = get_or-take s.road.signals s.reds k 0 l

  agrees : Agree cut (timed_street s)
  agrees = record { cycle = refl; signals = refl; red = red_of; outbound = λ k l. refl; inbound = λ k l. refl }

  cut_sound : Sound cut
  cut_sound =
      record {
        some = sound.some;
        few = sound.few;
        out = sound.out;
        back = sound.back;
        onward = sound.onward;
        shortest = sound.shortest;
        longest = sound.longest;
        goes = λ k l. subst (λ (r : ℕ). r < s.cycle) (sym (red_of k l)) (sound.goes k l);
      }

  cut_anchors : Reduced cut (take s.road.signals x)
  cut_anchors = record { each = λ k l. get_or-take s.road.signals x k 0 l ∙ anchors.each k l ∙ ap (λ (r : ℕ). man (2 * s.cycle) (pos r -ℤ pos ((timed_street s).outbound k + (timed_street s).inbound k))) (sym (red_of k l)) }

  pub front_found : (r : Candidate) → Finds s.cycle s.road.signals (take s.road.signals s.reds) (take s.road.signals x) r → Searched (timed_street s) r
  front_found r finds =
      let found = finds.each (timed_street s).outbound (timed_street s).inbound cut_sound cut_anchors in
      record {
        found = found.found ∙ reference_agree cut (timed_street s) agrees;
        width = found.width ∙ B_agree cut (timed_street s) agrees;
        small = found.small;
      }
