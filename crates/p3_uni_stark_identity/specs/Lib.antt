pub mod Chunks
pub mod Folding
pub mod Identity
pub mod Laws
pub mod Selectors
