pub mod AcceptedCalls
pub mod CallRecords
pub mod CallsRun
pub mod PeaksTold
pub mod RecordColumns
pub mod RefusedCalls
pub mod SpentMachine
