pub mod SummedLoss
pub mod TraceLoss
