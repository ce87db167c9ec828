pub mod Written
pub mod Places
pub mod Cut
pub mod Faulty
pub mod InsideClaims
pub mod Verified
mod Kept
pub mod Mapped
mod Inside
mod Tested
mod Passed
mod Stopped
mod Counted
mod Shown
mod Openable
mod Fitting
mod Accepted
-- what the scheme above names of the crates below
pub use Rattle.p3_fri_two_adic.proofs.Committed
pub use Rattle.p3_fri_two_adic.proofs.Evaluated
pub use Rattle.p3_fri_two_adic.proofs.Ldes
pub use Rattle.p3_fri_two_adic.proofs.Sizes
pub use Rattle.p3_fri_two_adic.proofs.Tabulated
