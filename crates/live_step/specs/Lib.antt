pub mod Answer
pub mod PastPart
pub mod Step
pub mod Record
pub mod Fill
