pub mod BrokenSample
pub mod FirstUpTo
pub mod LowestRule
pub mod PermittedTotals
