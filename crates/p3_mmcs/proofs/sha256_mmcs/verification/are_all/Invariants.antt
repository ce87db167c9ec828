use Rattle.std.proofs.Common.{◌≡◌, ◌<◌, ℕ, [], slice_index_or}
use Rattle.p3_mmcs.proofs.sha256_mmcs.verification.are_all.Given as goal

abbrev pub invariant-loop-digest : goal.invariant-loop-digest
invariant-loop-digest l = (k : ℕ) → k < l.digest-index
    → slice_index_or l.digests k [] ≡ l.commitment
