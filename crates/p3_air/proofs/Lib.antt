pub mod Degrees
pub mod First
pub mod Gains
pub mod Meanings
pub mod NodeValues
pub mod PeriodicValues
pub mod RowEntries
