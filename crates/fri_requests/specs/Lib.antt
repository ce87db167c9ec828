pub mod Accepted
pub mod Commitments
pub mod Matrices
pub mod Opened
pub mod PlainRequests
