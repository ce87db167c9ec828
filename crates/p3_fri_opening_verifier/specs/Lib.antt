pub mod Accepted
pub mod Ends
pub mod Ranges
