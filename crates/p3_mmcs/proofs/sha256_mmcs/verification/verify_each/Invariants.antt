use Rattle.std.proofs.Common.{◌<◌, ◌*◌, ℕ, [], length, slice_index_or}
use Rattle.algebra.specs.Nested.{lists, nested}
use Rattle.p3_mmcs.specs.Tree.{OpensAt}
use Rattle.p3_mmcs.proofs.sha256_mmcs.verification.verify_each.Given as goal

abbrev pub invariant-loop-group : goal.invariant-loop-group
invariant-loop-group g l = (k : ℕ) → k < length l.indices → k < 8 * l.group
    → OpensAt g.T.ElementBytes.bytes l.commitment l.dimensions (slice_index_or l.indices k 0)
    (slice_index_or (nested l.opened_values) k []) (slice_index_or (lists l.paths) k [])
