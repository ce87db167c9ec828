pub mod Points
pub mod Recombined
pub mod Rows
pub mod Sizes
pub mod Splits
