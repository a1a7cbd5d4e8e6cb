pub mod CallLaws
pub mod RunLaws
pub mod LoadLaws
pub mod DirectLaws
pub mod RefusalNumbers
pub mod LoadedLaws
