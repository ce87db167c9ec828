pub mod Held
pub mod Quotients
pub mod Prepared
pub mod Committed
pub mod Refused
pub mod Finished
pub mod Provable
