pub mod Keeping
pub mod Reopening
