pub mod WeightOrder
pub mod StopLaws
pub mod AllocateLaws
pub mod QueueLaws
pub mod EvictLaws
pub mod Reached
pub mod ReachedMoves
pub mod ReachedSearch
