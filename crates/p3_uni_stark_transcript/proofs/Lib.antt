pub mod Instances
pub mod Joined
