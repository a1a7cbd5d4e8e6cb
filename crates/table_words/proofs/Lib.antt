pub mod Halves
pub mod RangeLaws
pub mod Decode
pub mod UseWords
pub mod RefusedNumber
