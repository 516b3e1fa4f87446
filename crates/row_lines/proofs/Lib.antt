pub mod Lines
pub mod LineSamples
