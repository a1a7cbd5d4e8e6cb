pub mod Walks
pub mod Starts
pub mod UnitMaps
pub mod Passing
