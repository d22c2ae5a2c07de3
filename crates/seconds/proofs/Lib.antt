pub mod SecondLaws
pub mod Examples
