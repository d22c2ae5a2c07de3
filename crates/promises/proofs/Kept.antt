-- What plans keep, at rounded and at exact times alike: along any lags that stay near the rounded ones.
pub use Rattle.promises.proofs.Kept.Bounds.{rest}
pub use Rattle.promises.proofs.Kept.Plans.{Follows, InRange, plan_bands, plan_keeps, platoons_in_range}
pub mod Bounds
pub mod Plans
