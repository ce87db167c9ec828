pub mod Chunks
pub mod Claimed
pub mod Inputs
pub mod Opened
pub mod Relation
pub mod Setting
pub mod Shown
