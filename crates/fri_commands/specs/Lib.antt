pub mod Texts
pub mod Steps
pub mod Prove
pub mod Commands
