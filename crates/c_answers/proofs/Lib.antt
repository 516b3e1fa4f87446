pub mod ListsTold
pub mod Rows
