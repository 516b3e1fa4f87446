pub mod BrokenFirst
pub mod Tallied
pub mod Judgement
pub mod Rules
