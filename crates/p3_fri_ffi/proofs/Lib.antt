pub mod AsBox
pub mod Outcomes
pub mod Provers
