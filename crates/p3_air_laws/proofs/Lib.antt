pub mod Composed
pub mod Folded
pub mod Functions
pub mod Lifted
pub mod Quotients
pub mod Related
pub mod Rows
