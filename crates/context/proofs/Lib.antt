pub mod CarryLaws
pub mod Decision
pub mod Carried
