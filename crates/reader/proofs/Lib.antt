pub mod Answers
pub mod Reading
pub mod Stores
pub mod Tables
pub mod Starts
