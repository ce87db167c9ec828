pub mod Steps
pub mod Counts
pub mod Fits
pub mod Labels
pub mod Pow
pub mod Reached
