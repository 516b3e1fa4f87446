pub mod LookedAhead
pub mod Taken
