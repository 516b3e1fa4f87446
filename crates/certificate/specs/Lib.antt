pub mod Claim
pub mod Checked
pub mod CheckRows
pub mod Read
