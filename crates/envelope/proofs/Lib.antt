pub mod Answers
pub mod ClosureRow
pub mod Filled
pub mod ToldPiece
pub mod FirstPiece
pub mod FirstPlaces
pub mod LastPlaceFirst
