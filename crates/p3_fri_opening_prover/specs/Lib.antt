pub mod Setting
pub mod Ranges
pub mod Opening
pub mod Opened
pub mod Refusals
