pub mod SizeSearched
pub mod Beside
pub mod Orders
pub mod SizeSays
pub mod SizesNeeded
