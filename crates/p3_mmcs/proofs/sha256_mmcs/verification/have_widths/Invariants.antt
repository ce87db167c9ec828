use Rattle.std.proofs.Common.{◌≡◌, ◌<◌, ℕ, [], length, slice_index_or}
use Rattle.p3_matrix.specs.declared.Dimensions.{Dimensions}
use Rattle.algebra.specs.Nested.{lists}
use Rattle.p3_mmcs.proofs.sha256_mmcs.verification.have_widths.Given as goal

abbrev pub invariant-loop-i : goal.invariant-loop-i
invariant-loop-i g l = (k : ℕ) (d : Dimensions) → k < l.i
    → length (slice_index_or (lists l.rows) k []) ≡ (slice_index_or l.dimensions k d).width
