pub mod Text
pub mod Way
