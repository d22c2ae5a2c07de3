-- What the proofs of several functions use, here and in `exports`, and examples.
pub mod Laws
pub mod Examples
