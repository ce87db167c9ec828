use Rattle.std.proofs.Common.{[], ◌∷◌, ◌++◌, sym, ap, ap₂, ◌∙◌, slice_index_or}
use Rattle.std.proofs.lemmas.List.{get_or_default, map_more}
use Rattle.p3_air.specs.declared.air.Rows.TheVariants as rows
use Rattle.p3_air.specs.declared.air.Constraint.{Constraint}
use Rattle.p3_uni_stark_identity.specs.Folding.{selected_by}
use Rattle.p3_uni_stark_quotient.proofs.row.select_all.Goals as goal

pub loop-constraint-preserved : goal.loop-constraint-preserved
loop-constraint-preserved g c =
    let F = g.F.Field.ops in
    let d : Constraint = record { rows = rows.All; node = 0 } in
    let values = c.args.values.now in
    let at = c.loop-constraint.constraint-index in
    let constraint = slice_index_or c.args.constraints.now at d in
    c.in_ok-push.ensures.items
    ∙ ap₂ (λ xs x. xs ++ x ∷ []) c.loop-constraint.invariant
    (c.select-value.ensures
    ∙ ap (λ v. selected_by F c.args.selectors.now constraint.rows v)
    (c.index-values-constraint.is
    ∙ get_or_default values constraint.node c.index-values-constraint.result F.zero
    (c.requires.nodes at d c.loop-constraint-test.true)))
    ∙ sym (map_more (λ (x : Constraint). selected_by F c.args.selectors.now x.rows
    (slice_index_or values x.node F.zero)) c.args.constraints.now at d
    c.loop-constraint-test.true)
