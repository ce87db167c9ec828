pub mod Chunked
pub mod Given
pub mod Lanes
pub mod Laws
pub mod Prepared
pub mod Quotient
