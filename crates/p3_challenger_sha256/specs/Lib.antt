pub mod Sha256
pub mod Sha256Laws
