pub mod PathLoss
pub mod PathRun
pub mod PathWork
pub mod Refusals
