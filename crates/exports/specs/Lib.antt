pub mod NumberedDevice
pub mod NumberedRuns
pub mod NumberedSizes
