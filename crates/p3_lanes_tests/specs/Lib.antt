pub mod OneLane
