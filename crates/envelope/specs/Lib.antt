pub mod ClosureRow
pub mod Envelope
