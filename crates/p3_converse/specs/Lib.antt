pub mod Positions
pub mod Newton
pub mod Unfolding
pub mod Batching
pub mod Quotients
pub mod Trees
pub mod Branches
pub mod TreeCoefficients
