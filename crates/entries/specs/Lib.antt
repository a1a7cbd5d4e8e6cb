pub mod Moves
pub mod Placing
pub mod Reserving
