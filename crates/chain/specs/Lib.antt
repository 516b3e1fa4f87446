pub mod Chains
pub mod CheckerAnswer
pub mod Links
pub mod Marks
pub mod Prepared
pub mod Refusals
pub mod Rows
