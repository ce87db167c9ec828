mod Passes
pub mod OpenableRequests
pub mod Log2
pub mod First
pub mod Refusals
pub mod Committed
pub mod Writes
pub mod Sums
pub mod ValueSums
pub mod Tables
pub mod Pushed
pub mod AskedPoints
pub mod Attained
pub mod RoundTables
pub mod Example
