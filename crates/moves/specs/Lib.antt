pub mod Standing
pub mod Moving
