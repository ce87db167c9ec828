pub mod Claimed
pub mod Claims
pub mod Elements
pub mod Listed
pub mod Numbers
pub mod Shapes
