pub mod Systems
pub mod Verdicts
