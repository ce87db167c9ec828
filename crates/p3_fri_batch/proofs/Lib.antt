pub mod Terms
pub mod LowDegree
pub mod LowWords
pub mod Heights
pub mod Bridge
pub mod Summed
pub mod Collected
pub mod Honest
