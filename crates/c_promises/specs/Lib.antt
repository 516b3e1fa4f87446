pub mod Told
pub mod Calls
pub mod Rows
pub mod CallsFromC
pub mod CallsRun
pub mod Certificates
pub mod SizesTold
pub mod ListsTold
