pub mod Bound
pub mod Statements
pub mod Verdicts
