pub mod Calls
pub mod RefusedCalls
pub mod CallsRun
