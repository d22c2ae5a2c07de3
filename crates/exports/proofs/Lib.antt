-- What the proofs of several functions use, and that each contract settles its call.
mod Laws
pub mod Unique
