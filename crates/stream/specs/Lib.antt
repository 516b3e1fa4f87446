pub mod Format
pub mod Handed
pub mod NumberSample
pub mod PlacedBurst
pub mod Refusals
