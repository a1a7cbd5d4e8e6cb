pub mod NeverShared
pub mod Agreement
pub mod EvictOrder
pub mod NotBytes
pub mod TestsNeeded
