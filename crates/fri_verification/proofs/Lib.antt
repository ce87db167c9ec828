pub mod Answered
pub mod Bound
pub mod Fields
