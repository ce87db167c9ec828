pub use Rattle.p3_challenger_core.proofs.Runs
pub use Rattle.p3_challenger_fs.proofs.Streams
