pub mod Chunks
pub mod Columns
pub mod Lists
pub mod Requests
pub mod WholeRows
