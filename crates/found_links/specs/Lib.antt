pub mod Given
pub mod Links
pub mod FoundRows
pub mod OurRows
pub mod Written
pub mod Put
pub mod FinderAnswer
