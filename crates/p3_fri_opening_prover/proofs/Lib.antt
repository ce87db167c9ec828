pub mod Asked
pub mod Composed
pub mod Drawn
pub mod Matrices
pub mod Refused
pub mod Tallest
pub mod Transported
pub mod Tested
