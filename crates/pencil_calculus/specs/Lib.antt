pub mod Pencil
pub mod Traces
