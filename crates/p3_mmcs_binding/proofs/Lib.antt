pub mod Bytes
pub mod Ways
