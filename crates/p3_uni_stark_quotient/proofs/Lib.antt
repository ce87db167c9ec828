pub mod ByLanes
pub mod Chunking
pub mod Entries
pub mod Folded
pub mod Honest
pub mod Ready
pub mod Selecting
pub mod NodeLanes
