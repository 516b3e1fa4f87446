pub mod Closing
pub mod Closure
pub mod Envelope
pub mod Piece
