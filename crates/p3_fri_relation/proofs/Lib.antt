pub mod PowerSums
pub mod ClaimedHeights
mod Example
pub mod InstanceQueries
pub mod Instances
pub mod QueryLinks
pub mod ScheduledRounds
pub mod Sources
pub mod TestReplays
pub mod WholeReplays
pub mod ZippedLists
