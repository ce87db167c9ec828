pub mod Domains
pub mod Laws
