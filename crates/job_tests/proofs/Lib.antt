pub mod Places
pub mod WholeTests
