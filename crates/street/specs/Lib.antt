pub mod Limits
pub mod Lists
pub mod Codes
pub mod Verdicts
pub mod Checks
pub mod Streets
pub mod Steps
