-- What the proofs of several functions use, and the definitions run on examples.
pub mod Digits
pub mod Writing
mod Examples
