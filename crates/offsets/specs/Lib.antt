pub mod Moved
pub mod Steps
