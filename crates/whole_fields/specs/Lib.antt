pub mod Probe
pub mod Whole
