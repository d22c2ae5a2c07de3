pub mod TimeLaws
pub mod Nearest
pub mod Paved
pub mod Examples
