pub mod Question
pub mod Windows
