use Rattle.std.proofs.Common.{ap, ap₂, ◌∙◌, arith}
use Rattle.algebra.specs.Polynomial.{sum_below}
use Rattle.p3_field_core.specs.RowSums.{row_term}
use Rattle.p3_field_core.proofs.TermSums.{sum_none, one_more, item}
use Rattle.p3_field_core.proofs.extension.ExtensionField.dot_row.Goals as goal

pub loop-i-init : goal.loop-i-init
loop-i-init g c =
    c.ZERO-sum.ensures ∙ g.met.Self.Field.zero_law
    ∙ sum_none g.Self.Field.ops g.met.Self.Field.laws.ring
    (row_term g.F.Field.ops g.Self.Field.ops g.Self.ExtensionField.lift c.args.values.now c.args.row.now)

pub loop-i-preserved : goal.loop-i-preserved
loop-i-preserved g c =
    let K = g.Self.Field.ops in
    let lift = g.Self.ExtensionField.lift in
    let field = g.met.Self.Field in
    let values = c.args.values.now in
    let row = c.args.row.now in
    let i = c.loop-i.i in
    field.add_law c.loop-i.sum c.scale.result c.add-sum.result c.add-sum.ensures
    ∙ one_more K field.laws.ring i (row_term g.F.Field.ops K lift values row) c.loop-i.sum
    c.scale.result c.loop-i.invariant
    (c.scale.ensures ∙ ap₂ (λ a b. K.mul a (lift b))
    (item values i c.index-values-i.result K.zero (omega arith) c.index-values-i.is)
    (item row i c.index-row-i.result g.F.Field.ops.zero (omega arith) c.index-row-i.is))

pub returns : goal.returns
returns g c =
    c.loop-i.invariant
    ∙ ap (λ n. sum_below g.Self.Field.ops n (row_term g.F.Field.ops g.Self.Field.ops
    g.Self.ExtensionField.lift c.args.values.now c.args.row.now)) (omega arith)
