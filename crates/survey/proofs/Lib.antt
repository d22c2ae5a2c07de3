pub mod RowLaws
pub mod Filled
pub mod TypingLaws
pub mod PlanLaws
pub mod Unique
pub mod Examples
