pub mod Buckets
pub mod Device
pub mod Enlargement
pub mod BucketLowestLoss
pub mod Family
pub mod BucketLosses
pub mod BucketSample
pub mod ListedEnvelope
