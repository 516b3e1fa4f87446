pub mod Merged
pub mod PathEnvelope
pub mod PathStages
pub mod PathRows
pub mod PathLowestLoss
pub mod PathSample
