pub mod Lines
pub mod Sizes
pub mod Replies
pub mod RoundTrips
pub mod Unique
pub mod Examples
