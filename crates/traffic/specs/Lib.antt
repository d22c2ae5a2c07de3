pub mod Volumes
pub mod Checks
