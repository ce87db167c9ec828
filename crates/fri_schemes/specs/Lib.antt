pub mod Alike
pub mod RangeLaws
pub mod RowLaws
pub mod Rows
