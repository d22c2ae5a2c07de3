pub mod Writing
pub mod RoundTrips
pub mod Steps
