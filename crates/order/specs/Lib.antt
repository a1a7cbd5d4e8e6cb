pub mod Marks
pub mod Hinted
pub mod OrderWalk
