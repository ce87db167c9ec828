pub mod Committing
pub mod Fits
pub mod Keeping
pub mod Preprocessing
pub mod Requested
pub mod Zipped
