pub mod Clipper
pub mod Regulator
pub mod Ahead
pub mod BoundedPast
pub mod Trace
pub mod Fill
pub mod Rows
pub mod StarredRows
