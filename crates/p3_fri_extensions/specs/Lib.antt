pub mod Extension
pub mod Committed
