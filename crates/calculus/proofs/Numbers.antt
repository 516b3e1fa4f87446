pub mod Least
pub mod Course
pub mod Distinct
pub mod Rising
pub mod Limit
pub mod Lists
pub mod FirstWhere
