pub mod Faults
pub mod Numbers
pub mod PlainLaws
pub mod Views
