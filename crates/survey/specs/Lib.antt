pub mod Rows
pub mod Typing
pub mod Plans
pub mod Steps
