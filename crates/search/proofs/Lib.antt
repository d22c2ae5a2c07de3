pub mod Pairs
pub mod Leading
pub mod Unique
pub mod Examples
pub mod Front
