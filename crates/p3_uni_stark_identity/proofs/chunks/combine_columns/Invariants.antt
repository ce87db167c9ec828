use Rattle.std.proofs.Common.{◌≡◌, [], length, slice_index_or}
use Rattle.algebra.specs.Nested.{lists}
use Rattle.algebra.specs.Polynomial.{sum_below}
use Rattle.p3_field_core.specs.Basis.{unit_vector}
use Rattle.p3_uni_stark_identity.proofs.chunks.combine_columns.Given as goal

abbrev pub invariant-loop-column : goal.invariant-loop-column
invariant-loop-column g l =
    let K = g.EF.Field.ops in
    l.quotient ≡ sum_below K l.column (λ e. K.mul
    (g.EF.ExtensionField.of_coefficients
    (unit_vector g.F.Field.ops g.EF.ExtensionField.DIMENSION e))
    (sum_below K (length l.chunks) (λ i. K.mul
    (slice_index_or (slice_index_or (lists l.chunks) i []) e K.zero)
    (slice_index_or l.factors i K.zero))))
