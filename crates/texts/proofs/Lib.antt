pub mod Digits
pub mod StoreLaws
