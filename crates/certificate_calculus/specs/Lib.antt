pub mod Certificate
pub mod LowestPair
pub mod LinkTests
pub mod FoundLinks
pub mod LackingLinks
pub mod CertificateSample
