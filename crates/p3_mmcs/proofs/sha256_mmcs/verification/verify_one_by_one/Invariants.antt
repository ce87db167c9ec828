use Rattle.std.proofs.Common.{◌<◌, ℕ, [], slice_index_or}
use Rattle.algebra.specs.Nested.{lists, nested}
use Rattle.p3_mmcs.specs.Tree.{OpensAt}
use Rattle.p3_mmcs.proofs.sha256_mmcs.verification.verify_one_by_one.Given as goal

abbrev pub invariant-loop-i : goal.invariant-loop-i
invariant-loop-i g l = (k : ℕ) → k < l.i
    → OpensAt g.T.ElementBytes.bytes l.commitment l.dimensions (slice_index_or l.indices k 0)
    (slice_index_or (nested l.opened_values) k []) (slice_index_or (lists l.paths) k [])
