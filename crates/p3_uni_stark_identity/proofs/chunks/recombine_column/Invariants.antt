use Rattle.std.proofs.Common.{◌≡◌, [], slice_index_or}
use Rattle.algebra.specs.Nested.{lists}
use Rattle.algebra.specs.Polynomial.{sum_below}
use Rattle.p3_uni_stark_identity.proofs.chunks.recombine_column.Given as goal

abbrev pub invariant-loop-i : goal.invariant-loop-i
invariant-loop-i g l =
    let K = g.EF.Field.ops in
    l.sum ≡ sum_below K l.i (λ i. K.mul
    (slice_index_or (slice_index_or (lists l.chunks) i []) l.column K.zero)
    (slice_index_or l.factors i K.zero))
