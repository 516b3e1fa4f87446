pub mod Answered
pub mod Given
pub mod Refusals
