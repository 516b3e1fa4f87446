pub mod Numbers
pub mod Envelopes
pub mod Regulators
pub mod Losses
