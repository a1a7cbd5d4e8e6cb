pub mod Slices
pub mod Turns
