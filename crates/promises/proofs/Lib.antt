pub mod Streets
pub mod Bands
pub mod Kept
pub mod Replies
pub mod Laws
pub mod Rows
pub mod Witnesses
pub mod Examples
