pub mod WholeTrace
pub mod RunWork
