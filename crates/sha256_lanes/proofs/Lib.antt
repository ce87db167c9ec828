pub mod Lanewise
pub mod Bitwise
pub mod Windows
pub mod Pieces
pub mod Ends
pub mod Shifts
