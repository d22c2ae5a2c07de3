pub mod SignedLaws
pub mod RequestLaws
pub mod Unique
pub mod Examples
