pub mod Shifted
pub mod Batches
pub mod Fitted
pub mod Halving
pub mod Recovered
