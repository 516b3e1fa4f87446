pub mod Looser
pub mod Smallest
pub mod Bisection
pub mod AnyRegulator
pub mod NeededOnly
pub mod PeakBuffer
pub mod SizeSample
