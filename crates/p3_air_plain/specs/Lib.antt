pub mod Checked
pub mod Elements
pub mod Faults
pub mod FormLaws
pub mod Forms
