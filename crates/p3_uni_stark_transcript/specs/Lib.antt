pub mod Instance
pub mod Steps
pub mod Replay
pub mod InstanceLaws
pub mod Views
