pub mod Refused
pub mod Rows
pub mod Same
pub mod Mapped
