pub mod SearchLaws
pub mod CheckLaws
pub mod MeasureLaws
pub mod Unique
pub mod Examples
