pub mod EvictWalk
pub mod AllocateWalk
pub mod Searching
