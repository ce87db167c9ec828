pub mod Claimed
pub mod Counts
pub mod Draws
pub mod Openings
pub mod Plans
