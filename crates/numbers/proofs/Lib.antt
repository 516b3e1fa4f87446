pub mod LeastSum
