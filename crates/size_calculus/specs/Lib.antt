pub mod Looser
pub mod Smallest
pub mod PeakBuffer
pub mod SizeSample
