pub mod Inputs
pub mod Refusals
pub mod Rounds
pub mod Played
pub mod Openings
pub mod Proved
pub mod Prover
