-- Laws of widths and requests: the search's B is circle's, raised; no width that a request comes to is above g; the platoon rule by the two lengths; and check, shift and
-- widths go by the signals alone. Assumes nothing.
use Rattle.std.specs.Prelude.{Ok}
use Prim.Native.Nat.{ℕ, ◌-◌, ◌*◌, ◌≤◌, ◌<◌, ◌^◌, ◌+◌}
use mathlib.Core.Path.{◌≡◌, sym, ap, refl, ap₂, ◌∙◌}
use mathlib.Core.Bool.{Bool, true, false, cond}
use native.Mathlib.Omega.{arith}
use native.Mathlib.Nat.{mul-le-mul}
use lib.Dec.{leb, ltb, eqb}
use borrow.Author.Tests.{leb-true, eq-eqb, ne_eqb, lt-ltb, le-ltb}
use Rattle.circle.specs.Signed.{or_zero}
use Rattle.circle.specs.Method.{Timed, halves}
use Rattle.circle.specs.Moved.{g, in_range, platoon_width}
use Rattle.circle.proofs.Formulas.{Fit, B⁺, B⁺_is, g_is, green_le, asked, asked_green, Agree, equal_width_agree, platoon_le, in_range_agree, other_width_agree, platoon_width_agree}
use Rattle.street.specs.Limits.{max_cycle, max_platoon}
use Rattle.street.specs.Checks.{unless, or_next}
use Rattle.street.specs.Steps.{max_halves, Sound}
use Rattle.street.specs.declared.Code.TheVariants.{Width, Platoon}
use Rattle.street.proofs.CheckLaws.{passes_at, passes, last_check}
use Rattle.street.proofs.Passed.{first_passed, rest_passed}
use Rattle.search.proofs.Leading.{fit_sound}
use Rattle.traffic.specs.Volumes.{platoon_of}
use Rattle.traffic.specs.Checks.{volume_check}
use Rattle.traffic.proofs.VolumeLaws.{Judged, judged}
use Rattle.widths.specs.Checks.{width_check, length_check, platoon_check, traffic_check, request_check}
use Rattle.widths.specs.Moved.{platoon_shift, shift_of, outbound_width, inbound_width}
use Rattle.widths.specs.Steps.{Raised, shift_width}
use Rattle.widths.specs.declared.Request.{Request}
use Rattle.widths.specs.declared.Shift.{Shift}
use Rattle.widths.specs.declared.Shift.TheVariants.{Unmoved, Outbound, Inbound}
use Rattle.widths.specs.declared.Request.TheVariants as request

-- B raised, as the search found it
pub raised_is : (s : Timed) (raised : ℕ) → Raised s raised → raised ≡ B⁺ s
raised_is s raised ok = B⁺_is s (fit_sound s ok.sound) raised ok.width

-- the check of a width, by the outcome of its test
pub check_is : (s : Timed) (w : ℕ) (t : Bool) → in_range s w ≡ t → unless t Width ≡ width_check s w
unfolding width_check
check_is s w t e = sym (ap (λ v. unless v Width) e)

-- 2B times a platoon fits 32 bits
pub product_fits : (cycle raised long : ℕ) → cycle ≤ max_cycle → raised ≤ 4 * cycle → long ≤ max_platoon → (2 * raised - 2 * (2 * cycle)) * long < 2 ^ 32
product_fits cycle raised long longest small short =
    let twice : 2 * raised - 2 * (2 * cycle) ≤ 2 * max_halves = omega arith in
    let most = mul-le-mul twice short in
    omega arith

-- no width that passes its check is above g, which is at most the cycle
pub range_le : (s : Timed) (w : ℕ) → Fit s → width_check s w ≡ (Ok tt) → w ≤ or_zero (g s)
unfolding width_check
range_le s w fit e =
    omega (arith, asked_green s fit w (asked s fit w (passes (in_range s w) Width e)), ap or_zero (g_is s fit))

pub widest_le : (s : Timed) → Fit s → or_zero (g s) ≤ halves s
widest_le s fit = omega (arith, green_le s fit, ap or_zero (g_is s fit))

-- platoons that passed are short enough
short_enough : (place P : ℕ) → length_check place P ≡ (Ok tt) → P ≤ max_platoon
short_enough place P e = leb-true P max_platoon (passes_at place (leb P max_platoon) Platoon e)

pub platoons_short : (P Q : ℕ) → platoon_check P Q ≡ (Ok tt) → (P ≤ max_platoon) × (Q ≤ max_platoon)
unfolding platoon_check
platoons_short P Q e =
    let rest = rest_passed (length_check 1 P) (or_next (length_check 2 Q) (Ok tt)) e in
    (short_enough 1 P (first_passed (length_check 1 P) (or_next (length_check 2 Q) (Ok tt)) e), short_enough 2 Q (first_passed (length_check 2 Q) (Ok tt) rest))

-- volumes that passed are small enough, and so is their headway; their platoons are short enough
pub traffic_passed : (C out back h : ℕ) → traffic_check C out back h ≡ (Ok tt) → Judged out back h × (platoon_of C h out ≤ max_platoon) × (platoon_of C h back ≤ max_platoon)
unfolding traffic_check
traffic_passed C out back h e =
    let rest = rest_passed (volume_check out back h) _ e in
    let (there, home) = platoons_short (platoon_of C h out) (platoon_of C h back) (first_passed (platoon_check (platoon_of C h out) (platoon_of C h back)) _ rest) in
    (judged out back h (first_passed (volume_check out back h) _ e), there, home)

-- the volumes' verdict, and where they passed that of their platoons
pub traffic_is : (C out back h : ℕ) → or_next (volume_check out back h) (platoon_check (platoon_of C h out) (platoon_of C h back)) ≡ traffic_check C out back h
unfolding traffic_check
traffic_is C out back h = ap (or_next (volume_check out back h)) (sym (last_check (platoon_check (platoon_of C h out) (platoon_of C h back))))

-- the platoon rule by the two lengths
pub favours_neither : (s : Timed) (P Q : ℕ) → P ≡ Q → Unmoved ≡ platoon_shift s P Q
unfolding platoon_shift
favours_neither s P Q same = simp (eq-eqb P Q same)

pub favours_outbound : (s : Timed) (P Q w : ℕ) → (P ≡ Q → ⊥) → Q < P → w ≡ platoon_width s P (P + Q) → Outbound w ≡ platoon_shift s P Q
unfolding platoon_shift
favours_outbound s P Q w differ longer is = simp (is, ne_eqb P Q differ, lt-ltb Q P longer)

pub favours_inbound : (s : Timed) (P Q w : ℕ) → (P ≡ Q → ⊥) → P ≤ Q → w ≡ platoon_width s Q (P + Q) → Inbound w ≡ platoon_shift s P Q
unfolding platoon_shift
favours_inbound s P Q w differ longer is = simp (is, ne_eqb P Q differ, le-ltb Q P longer)

-- the platoon rule's shift is no wider than g
platoon_shift_le : (s : Timed) (P Q : ℕ) → shift_width (platoon_shift s P Q) ≤ or_zero (g s)
unfolding platoon_shift
platoon_shift_le s P Q = go (eqb P Q) (ltb Q P)
  where
    go : (t v : Bool) → shift_width (cond t Unmoved (cond v (Outbound (platoon_width s P (P + Q))) (Inbound (platoon_width s Q (P + Q))))) ≤ or_zero (g s)
    go true v = omega arith
    go false true = platoon_le s P (P + Q)
    go false false = platoon_le s Q (P + Q)

pub shift_small : (s : Timed) (asked : Request) → Sound s → request_check asked s ≡ (Ok tt) → shift_width (shift_of asked s) ≤ max_halves
shift_small s request.Equal ok e = omega arith
shift_small s (request.Outbound w) ok e =
    let fit = fit_sound s ok in omega (arith, range_le s w fit e, widest_le s fit, ok.longest)
shift_small s (request.Inbound w) ok e =
    let fit = fit_sound s ok in omega (arith, range_le s w fit e, widest_le s fit, ok.longest)
shift_small s (request.Platoons P Q) ok e =
    let fit = fit_sound s ok in
    omega (arith, platoon_shift_le s P Q, widest_le s fit, ok.longest)
shift_small s (request.Volumes out back h) ok e =
    let fit = fit_sound s ok in
    omega (arith, platoon_shift_le s (platoon_of s.cycle h out) (platoon_of s.cycle h back), widest_le s fit, ok.longest)

-- a request's check, shift, offsets and plan go by the signals alone
module _ (s z : Timed) (agree : Agree s z) where
  pub check_agree : (asked : Request) → request_check asked s ≡ request_check asked z
  unfolding width_check
  check_agree request.Equal = refl
  check_agree (request.Outbound w) = ap (λ t. unless t Width) (in_range_agree s z agree w)
  check_agree (request.Inbound w) = ap (λ t. unless t Width) (in_range_agree s z agree w)
  check_agree (request.Platoons P Q) = refl
  check_agree (request.Volumes out back h) = ap (λ (C : ℕ). traffic_check C out back h) agree.cycle

  platoons_agree : (P Q : ℕ) → platoon_shift s P Q ≡ platoon_shift z P Q
  unfolding platoon_shift
  platoons_agree P Q =
      ap₂ (λ (x y : ℕ). cond (eqb P Q) Unmoved (cond (ltb Q P) (Outbound x) (Inbound y)))
      (platoon_width_agree s z agree P (P + Q))
      (platoon_width_agree s z agree Q (P + Q))

  pub shift_agree : (asked : Request) → shift_of asked s ≡ shift_of asked z
  shift_agree request.Equal = refl
  shift_agree (request.Outbound w) = refl
  shift_agree (request.Inbound w) = refl
  shift_agree (request.Platoons P Q) = platoons_agree P Q
  shift_agree (request.Volumes out back h) =
      platoons_agree (platoon_of s.cycle h out) (platoon_of s.cycle h back)
      ∙ ap (λ (C : ℕ). platoon_shift z (platoon_of C h out) (platoon_of C h back)) agree.cycle

  pub outbound_agree : (shift : Shift) → outbound_width shift s ≡ outbound_width shift z
  outbound_agree Unmoved = equal_width_agree s z agree
  outbound_agree (Outbound w) = refl
  outbound_agree (Inbound w) = other_width_agree s z agree w

  pub inbound_agree : (shift : Shift) → inbound_width shift s ≡ inbound_width shift z
  inbound_agree Unmoved = equal_width_agree s z agree
  inbound_agree (Outbound w) = other_width_agree s z agree w
  inbound_agree (Inbound w) = refl
