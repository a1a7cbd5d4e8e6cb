pub mod QueueWalk
