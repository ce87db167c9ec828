pub mod Canonical
pub mod Failed
pub mod Images
pub mod Kept
pub mod Listed
pub mod Sizes
