pub mod Honest
pub mod Requests
pub mod Laws
