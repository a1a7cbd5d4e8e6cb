pub mod WalkLaws
pub mod LineLaws
pub mod SheetLaws
pub mod FewLines
