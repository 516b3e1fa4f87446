pub mod Accepted
pub mod PortRun
pub mod PortWork
pub mod Refusals
