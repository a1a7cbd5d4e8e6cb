pub mod Buffers
pub mod Search
pub mod Segments
