pub mod Held
pub mod Keys
pub mod Proved
pub mod Statements
