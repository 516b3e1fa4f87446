pub mod Closing
pub mod Square
pub mod SquareRows
pub mod SquareNear
pub mod SquareSample
