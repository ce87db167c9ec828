-- The names of the phases.
use Rattle.std.specs.Prelude.{ℕ, List, codes}
use Rattle.p3_fri_folding.specs.declared.pow_phase.PowPhase.{PowPhase}
use Rattle.p3_fri_folding.specs.declared.pow_phase.PowPhase.TheVariants.{Batch, CommitPhase, Query}

abbrev pub phase_name : PowPhase → List ℕ
phase_name Batch = codes "opening-batching"
phase_name CommitPhase = codes "commit"
phase_name Query = codes "query"
