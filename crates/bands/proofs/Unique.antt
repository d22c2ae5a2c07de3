-- The contract of `measure` determines its reply for any lists and offsets: it is one equation, so two replies that it allows are equal, and so are their numbers. Assumes
-- nothing.
use Prim.Native.Nat.{ℕ}
use mathlib.Core.Path.{◌≡◌, sym, ap, ◌∙◌}
use mathlib.Core.List.{List}
use Rattle.street.specs.Lists.{Lists}
use Rattle.bands.specs.Measure.{Measurement}
use Rattle.bands.specs.Measure.{band_numbers, measurement_of}

module _ (l : Lists) (offsets : List ℕ) (r s : Measurement) (one : r ≡ measurement_of l offsets) (other : s ≡ measurement_of l offsets) where
  pub measure_unique : r ≡ s
  measure_unique = one ∙ sym other

  pub numbers_unique : band_numbers r ≡ band_numbers s
  numbers_unique = ap band_numbers measure_unique
