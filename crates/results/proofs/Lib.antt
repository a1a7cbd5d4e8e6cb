pub mod ReadLaws
pub mod SheetLaws
