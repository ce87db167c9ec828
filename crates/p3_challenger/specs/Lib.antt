pub use Rattle.p3_challenger_core.specs.Laws
pub use Rattle.p3_challenger_core.specs.Run
pub use Rattle.p3_challenger_sha256.specs.Sha256
pub use Rattle.p3_challenger_sha256.specs.Sha256Laws
pub use Rattle.p3_challenger_sha256.specs.declared.sha256_challenger
pub use Rattle.p3_challenger_fs.specs.Description
pub use Rattle.p3_challenger_fs.specs.Driver
pub use Rattle.p3_challenger_fs.specs.Pattern
pub use Rattle.p3_challenger_fs.specs.Script
pub use Rattle.p3_challenger_fs.specs.Separator
pub use Rattle.p3_challenger_fs.specs.StreamLaws
pub use Rattle.p3_challenger_fs.specs.Turns
pub use Rattle.p3_challenger_fs.specs.declared.domain_separator
pub use Rattle.p3_challenger_fs.specs.declared.driver
pub use Rattle.p3_challenger_fs.specs.declared.pattern
pub use Rattle.p3_challenger_fs.specs.declared.script
pub use Rattle.p3_challenger_fs.specs.contracts.script as script_contracts
