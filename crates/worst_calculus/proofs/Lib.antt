pub mod WorstTrace
