pub mod Lent
pub mod OpenRefusals
pub mod Openings
pub mod Prepared
