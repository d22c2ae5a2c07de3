pub mod Form
pub mod Reading
pub mod Steps
