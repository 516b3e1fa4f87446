pub mod BothMarks
pub mod PrintedRows
pub mod RefusedSample
pub mod SixPacketBurst
pub mod Text
