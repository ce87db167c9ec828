pub mod Digests
pub mod Drawn
pub mod HidingAccepted
pub mod Marked
pub mod Parts
pub mod ProofNumbers
pub mod Sizes
