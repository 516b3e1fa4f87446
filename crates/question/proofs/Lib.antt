pub mod Asked
pub mod FirstPlace
pub mod ListsLeft
pub mod Orders
pub mod WindowRow
