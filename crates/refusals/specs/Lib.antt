pub mod Lengths
pub mod Limits
pub mod Table
pub mod WholeTrace
