pub mod UseWalks
