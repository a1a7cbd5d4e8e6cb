pub mod StageLoads
pub mod FirstWords
