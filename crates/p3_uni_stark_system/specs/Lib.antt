pub mod Keys
pub mod Proved
pub mod Systems
