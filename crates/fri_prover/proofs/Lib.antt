pub mod MayOpen
pub mod PlainRefusals
pub mod ReadKept
pub mod Reopened
