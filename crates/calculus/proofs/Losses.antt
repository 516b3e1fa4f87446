pub mod Permitted
pub mod Quiet
pub mod AlsoPermitted
pub mod LowestLoss
pub mod LossCurve
pub mod Rivals
