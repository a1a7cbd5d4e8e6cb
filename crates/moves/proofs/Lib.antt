pub mod Shares
pub mod MoveLaws
