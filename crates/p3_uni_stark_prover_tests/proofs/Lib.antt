pub mod Columns
pub mod Statements
