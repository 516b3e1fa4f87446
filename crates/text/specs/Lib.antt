pub mod Digits
pub mod Lines
pub mod Counts
pub mod Printed
pub mod Put
