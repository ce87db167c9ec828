pub mod Complete
pub mod Domains
pub mod Points
pub mod Recombination
pub mod Sums
