pub mod Broken
pub mod Breaks
pub mod BrokenSample
