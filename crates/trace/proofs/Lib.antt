pub mod RunAnswer
pub mod Totals
pub mod NewestLast
pub mod ForecastRanges
pub mod RunLoop
pub mod Alone
pub mod RunLowestLoss
