pub mod Path
pub mod Merged
pub mod PathSample
