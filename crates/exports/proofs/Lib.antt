pub mod ByNumber
pub mod ChainsByNumber
pub mod EnvelopeAnswers
pub mod CountsStand
pub mod RunsByNumber
pub mod ListsTold
pub mod ByPlace
