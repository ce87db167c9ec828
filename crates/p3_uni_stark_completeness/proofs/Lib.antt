pub mod Chunked
pub mod Periodic
pub mod Columns
