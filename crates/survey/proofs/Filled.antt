-- What four arrays hold while rows are typed into them, row by row. Assumes nothing.
use Prim.Native.Nat.{ℕ, ◌+◌, ◌≤◌, ◌<◌}
use mathlib.Core.Path.{◌≡◌, refl, sym, ap, ◌∙◌}
use mathlib.Core.Bool.{false}
use mathlib.Core.List.{List}
use native.Mathlib.Omega.{arith}
use lib.ListN.{replicate, set}
use borrow.Author.Count.{below_more}
use Rattle.std.specs.Prelude.{Some}
use Rattle.circle.specs.Over.{list_below}
use Rattle.circle.proofs.Numbers.{fill_store}
use Rattle.road.specs.Limits.{max_signals}
use Rattle.road.specs.Steps.{padded}
use Rattle.eighths.specs.Readings.{eighths_of}
use Rattle.survey.specs.declared.Judged.{Judged}
use Rattle.survey.specs.declared.Row.{Row}
use Rattle.survey.specs.Rows.{counted, running, bad_row}
use Rattle.survey.specs.Typing.{thousandths}
use Rattle.survey.specs.Steps.{max_eighths, judged_as, standing}
use Rattle.survey.proofs.RowLaws.{first_good, following_good}

module _ (row : ℕ → Row) where
  -- the numbers of rows and of links
  abbrev red_at : ℕ → ℕ
  red_at j = (row j).red

  abbrev distance_at : ℕ → ℕ
  distance_at j = thousandths (running row j)

  abbrev outbound_at : ℕ → ℕ
  outbound_at k = thousandths (counted (eighths_of (row (k + 1)).outbound))

  abbrev inbound_at : ℕ → ℕ
  inbound_at k = thousandths (counted (eighths_of (row (k + 1)).inbound))

  -- no row up to the one at which a link starts is bad, the running distance is that row's, and the arrays hold the numbers of the rows up to it and of the links before it
  pub record SoFar (link before : ℕ) (reds distances outbound inbound : List ℕ) : Type 0 where
    pub good : (k : ℕ) → k < link + 1 → bad_row row k ≡ false
    pub is : before ≡ running row link
    pub near : before ≤ max_eighths
    pub stops : reds ≡ padded (link + 1) red_at
    pub places : distances ≡ padded (link + 1) distance_at
    pub there : outbound ≡ padded link outbound_at
    pub home : inbound ≡ padded link inbound_at

  -- the first row, in arrays of zeros
  pub so_far-first : (m : Judged) → m.distance ≤ max_eighths → standing (judged_as 0 (row 0)) ≡ Some m → SoFar 0 m.distance (set (replicate max_signals 0) 0 (row 0).red) (set (replicate max_signals 0) 0 (thousandths m.distance)) (replicate max_signals 0) (replicate max_signals 0)
  unfolding list_below
  so_far-first m near e =
      let g = first_good row m e in
      let zeros : List ℕ = replicate max_signals 0 in
      record {
        good = λ k l. let first : k ≡ 0 = omega arith in ap (bad_row row) first ∙ g.good;
        is = g.is;
        near = near;
        stops = fill_store zeros zeros red_at 0 _ 0 (omega arith) refl refl;
        places = fill_store zeros zeros distance_at 0 _ 0 (omega arith) refl (ap thousandths g.is);
        there = refl;
        home = refl;
      }

  -- and one more
  pub so_far-more : (link before : ℕ) (reds distances outbound inbound : List ℕ) (m : Judged) → SoFar link before reds distances outbound inbound → link + 1 < max_signals → m.distance ≤ max_eighths → judged_as before (row (link + 1)) ≡ Some m → SoFar (link + 1) m.distance (set reds (link + 1) (row (link + 1)).red) (set distances (link + 1) (thousandths m.distance)) (set outbound link (thousandths m.outbound)) (set inbound link (thousandths m.inbound))
  so_far-more link before reds distances outbound inbound m h room near e =
      let g = following_good row link before m h.is e in
      let zeros : List ℕ = replicate max_signals 0 in
      record {
        good = below_more _ _ h.good g.good;
        is = g.is;
        near = near;
        stops = fill_store zeros reds red_at (link + 1) _ 0 room h.stops refl;
        places = fill_store zeros distances distance_at (link + 1) _ 0 room h.places (ap thousandths g.is);
        there = fill_store zeros outbound outbound_at link _ 0 (omega arith) h.there (ap thousandths (sym g.out));
        home = fill_store zeros inbound inbound_at link _ 0 (omega arith) h.home (ap thousandths (sym g.back));
      }
