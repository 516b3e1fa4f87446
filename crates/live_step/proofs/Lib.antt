pub mod PastRow
pub mod StepRow
pub mod StepFills
pub mod StepTotals
