pub mod Committed
pub mod Outcomes
pub mod Preprocessing
pub mod Read
pub mod Refusals
pub mod Requests
