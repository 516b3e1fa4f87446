pub mod Square
pub mod SquareRows
pub mod SquareSample
