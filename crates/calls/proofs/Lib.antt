pub mod DirectLaws
pub mod Traces
pub mod RunCalls
pub mod QuestionLaws
