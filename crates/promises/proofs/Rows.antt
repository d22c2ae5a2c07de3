-- The rows of the examples, and the promises at some of them.
pub use Rattle.promises.proofs.Rows.Instances.{cut, instances, resting, uncut}
pub use Rattle.promises.proofs.Rows.Table.{rows_hold}
pub mod Instances
pub mod Table
