pub mod BeginLaws
pub mod NextLaws
pub mod CountLaws
