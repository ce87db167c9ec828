pub mod Errors
pub mod Statements
