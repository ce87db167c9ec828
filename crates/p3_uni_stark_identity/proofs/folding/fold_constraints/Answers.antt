use Rattle.std.proofs.Common.{◌≡◌, ap, ◌∙◌, slice_index_or}
use Rattle.std.proofs.lemmas.List.{get_or_default}
use Rattle.p3_air.specs.declared.air.Rows.TheVariants as rows
use Rattle.p3_air.specs.declared.air.Constraint.{Constraint}
use Rattle.p3_uni_stark_identity.specs.Folding.{selected_by}
use Rattle.p3_uni_stark_identity.proofs.Sums.{sum_none, sum_next}
use Rattle.p3_uni_stark_identity.proofs.folding.fold_constraints.Goals as goal

pub loop-constraint-init : goal.loop-constraint-init
loop-constraint-init g c =
    let K = g.EF.Field.ops in
    sum_none K g.met.EF.Field.laws
    (λ (x : Constraint). selected_by K c.args.selectors.now x.rows
    (slice_index_or c.args.values.now x.node K.zero))
    c.args.constraints.now c.args.alpha c.ZERO-sum.result
    (c.ZERO-sum.ensures ∙ g.met.EF.Field.zero_law)

pub loop-constraint-preserved : goal.loop-constraint-preserved
loop-constraint-preserved g c =
    let K = g.EF.Field.ops in
    let field = g.met.EF.Field in
    let d : Constraint = record { rows = rows.All; node = 0 } in
    let values = c.args.values.now in
    let at = c.loop-constraint.constraint-index in
    let constraint = slice_index_or c.args.constraints.now at d in
    sum_next K field.laws
    (λ (x : Constraint). selected_by K c.args.selectors.now x.rows
    (slice_index_or values x.node K.zero))
    c.args.constraints.now c.args.alpha at d c.loop-constraint.sum c.add-sum.result
    c.select.result c.loop-constraint-test.true c.loop-constraint.invariant
    (c.select.ensures
    ∙ ap (λ v. selected_by K c.args.selectors.now constraint.rows v)
    (c.index-values-constraint.is
    ∙ get_or_default values constraint.node c.index-values-constraint.result K.zero
    (c.requires.nodes at d c.loop-constraint-test.true)))
    (field.add_law c.mul.result c.select.result c.add-sum.result c.add-sum.ensures
    ∙ ap (λ x. K.add x c.select.result)
    (field.mul_law c.loop-constraint.sum c.args.alpha c.mul.result c.mul.ensures))
