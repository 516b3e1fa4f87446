pub mod TraceLoss
