pub mod Common
pub mod Pushed
