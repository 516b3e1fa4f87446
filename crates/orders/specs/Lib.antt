pub mod Answered
pub mod Order
pub mod Places
pub mod Refusal
pub mod Verdict
