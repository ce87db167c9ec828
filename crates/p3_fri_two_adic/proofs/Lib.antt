pub mod Claims
pub mod Committed
pub mod Evaluated
pub mod Ldes
pub mod Ranges
pub mod Rows
pub mod Sizes
pub mod Tabulated
mod Unspent
