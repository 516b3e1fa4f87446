pub mod Sizes
pub mod Least
pub mod Course
pub mod Limit
pub mod Lists
pub mod FirstWhere
