pub mod PencilNumbers
pub mod Pencil
pub mod ShortTraces
pub mod Traces
pub mod TracesSample
