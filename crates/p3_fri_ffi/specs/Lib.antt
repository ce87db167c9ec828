pub mod Fields
pub mod Held
pub mod Provers
pub mod Reply
