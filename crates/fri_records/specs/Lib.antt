pub mod Failures
pub mod Records
