pub mod Batches
pub mod Columns
pub mod Tables
pub mod Values
pub mod Views
pub mod Writes
