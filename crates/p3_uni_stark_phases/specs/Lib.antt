pub mod Chunks
pub mod Commits
pub mod Evaluated
pub mod Refusals
pub mod Split
