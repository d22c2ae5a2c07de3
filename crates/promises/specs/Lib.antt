pub mod Exact
pub mod Replies
pub mod Measures
pub mod Rows
pub mod Witnesses
pub mod Resting
