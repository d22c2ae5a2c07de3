pub mod Seconds
pub mod Steps
