pub mod Domains
pub mod Requests
