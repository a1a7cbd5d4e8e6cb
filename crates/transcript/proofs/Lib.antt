pub mod Weights
pub mod SaidLaws
pub mod StateLaws
pub mod EntryLaws
