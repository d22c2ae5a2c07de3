-- The exact ways run on an example: 100 mm at 1,000 mm/s outbound and 2,000 mm/s inbound take one tick and half a tick, so 2 halves and 1 half. Assumes nothing.
use mathlib.Core.Path.{◌≡◌, refl}
use Rattle.circle.specs.Over.{sum_below}
use Rattle.street.specs.Lists.{Lists}
use Rattle.promises.specs.Exact.{exact_ways}
use Rattle.promises.specs.Rows.{two_signals}

abbrev unlike : Lists
unlike = two_signals 10 5 5 0 100 1000 2000

-- outbound counted at signal 1, so the car is at signal 2 after its lag; inbound counted at signal 2
outbound_lag : ((exact_ways unlike 1).outbound (λ j. 0)).lag 1 ≡ 2
unfolding two_signals sum_below
outbound_lag = refl

inbound_lag : ((exact_ways unlike 1).inbound (λ j. 0)).lag 0 ≡ 1
unfolding two_signals sum_below
inbound_lag = refl

-- in quarters of a half
inbound_fine : ((exact_ways unlike 4).inbound (λ j. 0)).lag 0 ≡ 4
unfolding two_signals sum_below
inbound_fine = refl
