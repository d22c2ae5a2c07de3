pub mod SearchLaws
pub mod Examples
