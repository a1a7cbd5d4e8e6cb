pub mod Deciding
pub mod Dequeues
