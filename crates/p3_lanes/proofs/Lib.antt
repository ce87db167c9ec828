pub mod HalfLists
pub mod LaneLists
pub mod Reductions
