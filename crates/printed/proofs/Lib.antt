-- What the proofs of several functions use, and the definitions run on examples.
mod Sizes
mod Lines
mod Examples
pub mod Ways
pub mod Unique
