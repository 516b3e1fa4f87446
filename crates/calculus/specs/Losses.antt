pub mod Permitted
pub mod LossCurve
pub mod AlsoPermitted
