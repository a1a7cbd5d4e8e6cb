pub mod Model
pub mod Parser
pub mod Load
pub mod Layout
