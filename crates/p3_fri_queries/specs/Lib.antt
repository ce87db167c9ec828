pub mod Folded
pub mod Opened
pub mod Settings
