pub mod CheckLaws
pub mod Passed
pub mod Sound
pub mod Unique
pub mod Order
pub mod Examples
