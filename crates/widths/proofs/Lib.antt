pub mod WidthLaws
pub mod Examples
