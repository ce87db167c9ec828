pub mod Counts
pub mod Opened
pub mod RequestState
pub mod Swaps
