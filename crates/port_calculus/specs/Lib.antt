pub mod Port
pub mod Schedules
pub mod PortWords
pub mod PortEnvelopes
pub mod PortTight
pub mod PacketSchedules
