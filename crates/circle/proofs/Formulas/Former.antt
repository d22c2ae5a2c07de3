-- The method as 01 has it, where every signal is a candidate and a limit and every one may be lowered, beside the amended one (02, 2026-05): where every signal has a red the two are the same, in
-- each formula that was amended. Assumes nothing.
use Prim.Native.Nat.{ℕ, ◌*◌, ◌<◌}
use mathlib.Core.Path.{◌≡◌, refl, ap, ap₂, ◌∙◌}
use mathlib.Core.Bool.{true, cond}
use lib.IntN.{ℤ, pos, ◌+ℤ◌, ◌-ℤ◌}
use Rattle.circle.specs.Signed.{leℤ, eqℤ, minℤ, maxℤ, or_zero}
use Rattle.circle.specs.Over.{◌and◌, first_below, least_below, greatest_where, index_of}
use Rattle.circle.specs.Method.{Timed, halves, u, pair_width, has_red, b, B, reference, phase}
use Rattle.circle.specs.Moved.{chosen, outbound_lowering, inbound_lowering}
use Rattle.circle.proofs.Numbers.Over.{first_ext}
use Rattle.circle.proofs.Numbers.Where.{over_ext, over_all}
use Rattle.circle.proofs.Formulas.Raised.{with_red}

-- b(i), B, the reference, a phase, u(j) and the two lowerings over all signals
abbrev pub formerb : Timed → ℕ → ℤ
formerb s i = least_below s.signals (λ j. maxℤ (pair_width s i j 0) (pair_width s i j s.cycle))

abbrev pub former_B : Timed → ℤ
former_B s = greatest_where (pos 0) s.signals (λ i. true) (formerb s)

abbrev pub former_reference : Timed → ℕ
former_reference s = index_of (first_below s.signals (λ i. eqℤ (formerb s i) (former_B s)))

abbrev pub former_phase : Timed → ℕ → ℕ → ℕ
former_phase s c j = cond (leℤ (pair_width s c j s.cycle) (pair_width s c j 0)) 0 s.cycle

abbrev pub former_chosen : Timed → ℕ → ℕ
former_chosen s j = u s (former_reference s) j (former_phase s (former_reference s) j)

abbrev pub former_outbound : Timed → ℕ → ℕ → ℕ
former_outbound s w j = or_zero (pos (former_chosen s j) -ℤ pos (halves s) +ℤ pos w -ℤ former_B s)

abbrev pub former_inbound : Timed → ℕ → ℕ → ℕ
former_inbound s w j = or_zero (pos w +ℤ pos (2 * s.red j) -ℤ pos (former_chosen s j))

module _ (s : Timed) (some : 0 < s.signals) (stops : (j : ℕ) → j < s.signals → 0 < s.red j) where
  red : (j : ℕ) → j < s.signals → has_red s j ≡ true
  red j l = with_red s j (stops j l)

  pub b_former : (i : ℕ) → b s i ≡ formerb s i
  unfolding b
  b_former i =
      let larger : ℕ → ℤ = λ j. maxℤ (pair_width s i j 0) (pair_width s i j s.cycle) in
      over_ext minℤ (pos (halves s)) s.signals (has_red s) (λ j. true) larger larger red (λ j l. refl)
      ∙ over_all minℤ (pos (halves s)) (pos 0) s.signals larger some

  pub B_former : B s ≡ former_B s
  unfolding B
  B_former =
      over_ext maxℤ (pos (halves s)) s.signals (has_red s) (λ i. true) (b s) (formerb s) red (λ i l. b_former i)
      ∙ over_all maxℤ (pos (halves s)) (pos 0) s.signals (formerb s) some

  pub reference_former : reference s ≡ former_reference s
  unfolding reference
  reference_former =
      ap index_of
      (first_ext s.signals (λ i. has_red s i and eqℤ (b s i) (B s)) (λ i. eqℤ (formerb s i) (former_B s))
      (λ i l. ap₂ ◌and◌ (red i l) (ap₂ eqℤ (b_former i) B_former)))

  pub phase_former : (c j : ℕ) → j < s.signals → phase s c j ≡ former_phase s c j
  unfolding phase
  phase_former c j l = ap (λ t. cond t (former_phase s c j) 0) (red j l)

  chosen_former : (j : ℕ) → j < s.signals → chosen s j ≡ former_chosen s j
  unfolding chosen
  chosen_former j l =
      ap (u s (reference s) j) (phase_former (reference s) j l) ∙ ap (λ (c : ℕ). u s c j (former_phase s c j)) reference_former

  pub outbound_former : (w j : ℕ) → j < s.signals → outbound_lowering s w j ≡ former_outbound s w j
  unfolding outbound_lowering
  outbound_former w j l = cc (red j l, chosen_former j l, B_former)

  pub inbound_former : (w j : ℕ) → j < s.signals → inbound_lowering s w j ≡ former_inbound s w j
  unfolding inbound_lowering
  inbound_former w j l = cc (red j l, chosen_former j l)
