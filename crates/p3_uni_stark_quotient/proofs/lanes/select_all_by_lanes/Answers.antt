use Rattle.std.proofs.Common.{[], ◌++◌, sym, ap, ◌∙◌, slice_index_or}
use Rattle.std.proofs.lemmas.List.{get_or_default, get_or-map}
use Rattle.algebra.proofs.Growing.{joined_pushed}
use Rattle.algebra.proofs.Lists.{tabulate-equal}
use Rattle.p3_air.specs.declared.air.Rows.TheVariants as rows
use Rattle.p3_air.specs.declared.air.Constraint.{Constraint}
use Rattle.p3_uni_stark_identity.specs.Folding.{selected_by}
use Rattle.p3_uni_stark_quotient.specs.Lanes.{selected_in_lane, selected_lanes, selectors_in_lane}
use Rattle.p3_uni_stark_quotient.proofs.lanes.select_all_by_lanes.Goals as goal

pub loop-constraint-preserved : goal.loop-constraint-preserved
loop-constraint-preserved g c =
    let F = g.F.Field.ops in
    let lane : g.row.P.Denot → _ → g.row.F.Denot = g.P.PackedField.lane in
    let width = g.P.PackedField.WIDTH in
    let d : Constraint = record { rows = rows.All; node = 0 } in
    let selectors = c.args.selectors.now in
    let constraints = c.args.constraints.now in
    let values = c.args.values.now in
    let at = c.loop-constraint.constraint-index in
    let test = c.loop-constraint-test.true in
    let constraint = slice_index_or constraints at d in
    let value = c.index-values-constraint.result in
    joined_pushed (selected_lanes F lane selectors values width) constraints at constraint []
    c.loop-constraint.selected.items c.push_lanes.new.elements.items test
    (get_or_default constraints at d constraint test) c.loop-constraint.invariant
    (c.in_ok-push_lanes.ensures
    ∙ ap (λ xs. c.loop-constraint.selected.items ++ xs) (tabulate-equal width
    (lane c.select_by_lanes-value.result)
    (λ l. selected_in_lane F lane selectors values l constraint)
    (λ l within. c.select_by_lanes-value.ensures l within
    ∙ ap (λ v. selected_by F (selectors_in_lane lane l selectors) constraint.rows v)
    (ap (λ v. lane v l) c.index-values-constraint.is
    ∙ sym (get_or-map (λ v. lane v l) values constraint.node value F.zero
    (c.requires.nodes at d test))))))
