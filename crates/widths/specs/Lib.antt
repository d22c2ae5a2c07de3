pub mod Moved
pub mod Checks
pub mod Steps
