pub mod Calling
pub mod Loading
