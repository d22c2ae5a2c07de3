-- A sheet between its reading and the call that takes its numbers.
use Rattle.std.specs.Prelude.{◌≤◌, ◌≡◌, length}
use Rattle.road.specs.Limits.{min_signals, max_signals}
use Rattle.sheet.specs.declared.Sheet.{Sheet}

-- a sheet's arrays have room for its signals, of which there is one at least
pub record Held (s : Sheet) : Type 0 where
  pub some : min_signals ≤ s.signals
  pub few : s.signals ≤ max_signals

-- each of a sheet's arrays is whole: it has 32 entries
pub record Whole (s : Sheet) : Type 0 where
  pub reds : length s.reds ≡ max_signals
  pub distances : length s.distances ≡ max_signals
  pub outbound : length s.outbound ≡ max_signals
  pub inbound : length s.inbound ≡ max_signals
