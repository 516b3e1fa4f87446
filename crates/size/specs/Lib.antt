pub mod Size
pub mod Beside
pub mod SizeSays
