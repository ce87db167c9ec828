pub mod Accepted
pub mod Widths
