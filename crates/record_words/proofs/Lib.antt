pub mod Filling
pub mod WordLaws
pub mod PlainRecords
