pub mod CallLaws
pub mod Unique
pub mod Nudged
pub mod Kept
pub mod Measured
pub mod Streets
pub mod Examples
