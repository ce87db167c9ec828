pub mod Acceptance
pub mod Openings
