use Rattle.std.proofs.Common.{◌<◌, ℕ, [], slice_index_or}
use Rattle.algebra.specs.Nested.{lists, nested}
use Rattle.p3_mmcs.specs.Shape.{IsShaped}
use Rattle.p3_mmcs.proofs.sha256_mmcs.verification.are_shaped.Given as goal

abbrev pub invariant-loop-i : goal.invariant-loop-i
invariant-loop-i g l = (k : ℕ) → k < l.i → IsShaped l.dimensions l.log_height
    (slice_index_or (nested l.opened_values) k []) (slice_index_or (lists l.paths) k [])
