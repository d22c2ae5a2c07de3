-- Laws of a plan's two bands, and here those that other crates cite: the bands that a plan names are there, two bands make 2B at most, so that none do better, and all of it in finer units.
pub use Rattle.circle.proofs.Bands.Bound.{Bounded, bound, bound_signed}
pub use Rattle.circle.proofs.Bands.Names.{Bands, Named, meets}
pub use Rattle.circle.proofs.Bands.Scale.{B⁺_scaled, Finer, finer_passes, finer_spans, fit_scaled, inbound_finer, other_scaled, outbound_finer, rising_scaled, scaled}
pub use Rattle.circle.proofs.Bands.Planned.{equal_bands, inbound_bands, outbound_bands}
pub use Rattle.circle.proofs.Bands.Best.{beside, longest_both}
pub mod Bound
pub mod Names
pub mod Scale
pub mod Planned
pub mod Best
pub mod Joined
