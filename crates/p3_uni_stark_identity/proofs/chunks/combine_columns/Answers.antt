use Rattle.std.proofs.Common.{◌≡◌, ℕ, [], length, slice_index_or, ap, ap₂, ◌∙◌}
use Rattle.algebra.specs.Nested.{lists}
use Rattle.algebra.specs.Polynomial.{sum_below}
use Rattle.p3_field_core.specs.Basis.{unit_vector}
use Rattle.p3_field_core.proofs.TermSums.{sum_none, one_more}
use Rattle.p3_uni_stark_identity.proofs.Recombination.{basis_element}
use Rattle.p3_uni_stark_identity.proofs.chunks.combine_columns.Goals as goal

pub loop-column-init : goal.loop-column-init
loop-column-init g c =
    let K = g.EF.Field.ops in
    let chunks = c.args.chunks.now in
    c.ZERO-quotient.ensures ∙ g.met.EF.Field.zero_law
    ∙ sum_none K g.met.EF.Field.laws.ring (λ e. K.mul
    (g.EF.ExtensionField.of_coefficients
    (unit_vector g.F.Field.ops g.EF.ExtensionField.DIMENSION e))
    (sum_below K (length chunks) (λ i. K.mul
    (slice_index_or (slice_index_or (lists chunks) i []) e K.zero)
    (slice_index_or c.args.factors.now i K.zero))))

pub loop-column-preserved : goal.loop-column-preserved
loop-column-preserved g c =
    let K = g.EF.Field.ops in
    let field = g.met.EF.Field in
    let chunks = c.args.chunks.now in
    let extension = g.EF.ExtensionField in
    let column = c.loop-column.column in
    let element = c.ith_basis_element-element in
    field.add_law c.loop-column.quotient c.mul.result c.add-quotient.result
    c.add-quotient.ensures
    ∙ one_more K field.laws.ring column (λ e. K.mul
    (extension.of_coefficients (unit_vector g.F.Field.ops extension.DIMENSION e))
    (sum_below K (length chunks) (λ i. K.mul
    (slice_index_or (slice_index_or (lists chunks) i []) e K.zero)
    (slice_index_or c.args.factors.now i K.zero)))) c.loop-column.quotient c.mul.result
    c.loop-column.invariant
    (field.mul_law element.result c.recombine_column.result c.mul.result c.mul.ensures
    ∙ ap₂ K.mul
    (basis_element g.F.Field.ops extension.DIMENSION extension.coefficients
    extension.of_coefficients g.met.EF.ExtensionField.of_coefficients_law
    g.met.EF.ExtensionField.coefficients_injective column element.result element.ensures)
    c.recombine_column.ensures)
