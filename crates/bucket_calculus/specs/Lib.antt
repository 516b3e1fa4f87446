pub mod Sum
pub mod Buckets
pub mod BucketSample
