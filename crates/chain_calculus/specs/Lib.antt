pub mod Chain
pub mod ChainFound
pub mod ChainDescribed
pub mod ChainWords
pub mod ChainSample
