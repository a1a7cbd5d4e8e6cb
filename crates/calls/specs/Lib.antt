pub mod Calling
pub mod Trace
pub mod Asking
