pub mod PathLive
pub mod PortFed
pub mod PortJoined
pub mod ProfileTable
pub mod SquareRunTable
