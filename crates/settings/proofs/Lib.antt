pub mod Accepted
pub mod Cuts
pub mod LookedAhead
pub mod TakenTable
