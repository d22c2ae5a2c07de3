-- Laws of stretches, and here those that other crates cite: the working form of a stretch, the longest one from an instant, the candidates for a band's start, and how a stretch fares
-- where reds or lags move, or where the way is mirrored.
pub use Rattle.circle.proofs.Stretches.Arcs.{Passes, Spans, since, spans, where_some}
pub use Rattle.circle.proofs.Stretches.Since.{Rising, along}
pub use Rattle.circle.proofs.Stretches.Reflection.{Patterned, likes, offset_turns}
pub use Rattle.circle.proofs.Stretches.Perturbation.{lags_back, lags_passes, near_passes, part}
pub use Rattle.circle.proofs.Stretches.Clear.{Proper, band_starts, passes_stretch, proper_way, since_turns, width_ge}
pub use Rattle.circle.proofs.Stretches.Longest.{end_at, left, longest, longest-least, since_end}
pub use Rattle.circle.proofs.Stretches.Candidates.{Best, IsBand, NoWorse, best_band, best_more, best_none, best_passed, from, no_red_lem}
pub use Rattle.circle.proofs.Stretches.Likeness.{Alike, inbound_alike, outbound_alike, past, start_alike, width_alike}
pub mod Arcs
pub mod Since
pub mod Reflection
pub mod Perturbation
pub mod Clear
pub mod Longest
pub mod Candidates
pub mod Likeness
