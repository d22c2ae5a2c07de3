pub mod Signed
pub mod Over
pub mod Man
pub mod Method
pub mod Bands
pub mod Moved
