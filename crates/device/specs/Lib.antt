pub mod Device
pub mod DeviceCalls
pub mod DeviceRows
pub mod DeviceRun
pub mod Levels
pub mod Profile
pub mod SimplerBuckets
