pub mod CallLaws
pub mod ListLaws
pub mod ListTraces
