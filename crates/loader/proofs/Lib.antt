pub mod Testing
pub mod Reserves
pub mod Regions
pub mod Laying
pub mod Loads
