pub mod Digits
pub mod Put
pub mod Lines
pub mod Slots
pub mod Printed
pub mod StarredTable
