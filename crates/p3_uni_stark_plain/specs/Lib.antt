pub mod Parts
pub mod Proofs
