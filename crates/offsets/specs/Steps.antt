-- Steps: what the library's functions say to each other and to the proofs. No contract of a public call cites it.
use Rattle.std.specs.Prelude.{ℕ, ◌+◌, ◌-◌, ◌*◌, cond, Bool, ◌≡◌, List, leb, ltb, pos, ◌-ℤ◌, get_or}
use Rattle.circle.specs.Method.{Timed, reference}
use Rattle.circle.specs.Man.{man}
use Rattle.search.specs.Steps.{Reduced, pair_of}
use Rattle.widths.specs.declared.Shift.{Shift}
use Rattle.widths.specs.declared.Shift.TheVariants.{Unmoved, Outbound, Inbound}
use Rattle.widths.specs.Steps.{Raised}
use Rattle.offsets.specs.declared.Choice.{Choice}

-- what a plan is made from: a sound street, its signals' anchors, its reference and its B
pub record Ready (s : Timed) (x : List ℕ) (c raised : ℕ) : Type 0 where
  pub base : Raised s raised
  pub anchors : Reduced s x
  pub found : c ≡ reference s

-- phase 0 or the cycle, by a test, and the u of that phase out of a pair's two raised widths: a raised width is u + H - 2r
abbrev pub choice_by : ℕ → ℕ → List ℕ → Bool → Choice
choice_by cycle red w first = record { phase = cond first 0 cycle; u = cond first (get_or w 0 0) (get_or w 1 0) + 2 * red - 2 * cycle }

-- the better phase by a pair's two raised widths, 0 on a tie
abbrev pub better_of : ℕ → ℕ → List ℕ → Choice
better_of cycle red w = choice_by cycle red w (leb (get_or w 1 0) (get_or w 0 0))

-- the same from the reference's and the signal's anchor and the signal's red
abbrev pub choice_of : ℕ → ℕ → ℕ → ℕ → Choice
choice_of cycle from to red = better_of cycle red (pair_of cycle from to red)

-- by how much a shift lowers an offset, from B raised and the signal's red and u; by nothing where the difference would be negative, and where the signal rests (02, 2026-05)
abbrev pub lowering_of : Shift → ℕ → ℕ → ℕ → ℕ
lowering_of Unmoved raised red u = 0
lowering_of (Outbound w) raised red u = cond (ltb 0 red) (u + w - raised) 0
lowering_of (Inbound w) raised red u = cond (ltb 0 red) (w + 2 * red - u) 0

-- an offset from its two sides: the phase joins the side ahead, the lowering the side that is taken away
abbrev pub offset_at : ℕ → ℕ → Shift → ℕ → ℕ → ℕ → ℕ → ℕ → ℕ
offset_at cycle raised shift from to red ahead behind =
    man (2 * cycle)
    (pos (ahead + (choice_of cycle from to red).phase) -ℤ pos (behind + lowering_of shift raised red (choice_of cycle from to red).u))
