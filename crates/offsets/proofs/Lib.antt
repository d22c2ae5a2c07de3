pub mod OffsetLaws
pub mod MovedLaws
pub mod Examples
