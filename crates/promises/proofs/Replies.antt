-- The promises of the replies of calls.
pub use Rattle.promises.proofs.Replies.Calls.{equal_is_method, kept_exact, kept_rounded, largest_volumes, one_sided}
pub use Rattle.promises.proofs.Replies.Measures.{measure_agrees}
pub use Rattle.promises.proofs.Replies.Resting.{resting_measures, resting_replies, resting_widths}
pub mod Calls
pub mod Measures
pub mod Resting
