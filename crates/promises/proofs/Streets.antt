-- Streets that pass the checks are such as the theory asks for, and their exact times lie near the rounded ones; and here what is promised of times and units.
pub use Rattle.promises.proofs.Streets.Times.{signed_times}
pub use Rattle.promises.proofs.Streets.Units.{fine_exists, nothing_lost}
pub mod Passing
pub mod Times
pub mod Windows
pub mod Directions
pub mod Units
