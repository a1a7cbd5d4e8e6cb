pub mod StageLoading
