pub mod Extensions
pub mod Faultless
pub mod Mapped
pub mod Nested
pub mod PassedOn
