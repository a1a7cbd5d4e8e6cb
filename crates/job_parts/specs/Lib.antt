pub mod Shares
pub mod Lent
