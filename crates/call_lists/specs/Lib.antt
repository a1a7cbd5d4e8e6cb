pub mod Listed
pub mod ListDemand
