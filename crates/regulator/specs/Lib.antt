pub mod LiveRun
pub mod LiveRows
pub mod Regulator
