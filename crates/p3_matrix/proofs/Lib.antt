pub mod Rows
pub mod Widths
pub mod Views
pub mod Cuts
pub mod Exchange
pub mod Words
pub mod Columns
