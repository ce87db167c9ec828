use Rattle.std.proofs.Common.{◌≡◌, ℕ, ◌++◌, length, map, refl, sym, ap, ◌∙◌, get_or}
use Rattle.std.proofs.lemmas.List.{length-map}
use Rattle.algebra.specs.Polynomial.{sum_below}
use Rattle.algebra.proofs.Lists.{tabulate-equal}
use Rattle.p3_field_core.specs.RowSums.{row_term}
use Rattle.p3_air.specs.Nodes.{values_in}
use Rattle.p3_air.specs.Shapes.{entries_of}
use Rattle.p3_air.proofs.Meanings.{length_meanings}
use Rattle.p3_uni_stark_quotient.specs.Lanes.{in_lane, lane_entries, selectors_in_lane}
use Rattle.p3_uni_stark_quotient.specs.Lanes.{selected_in_lane}
use Rattle.p3_uni_stark_quotient.specs.Quotient.{quotient_on_row}
use Rattle.p3_uni_stark_quotient.proofs.Folded.{reversed_valued, row_value}
use Rattle.p3_uni_stark_quotient.proofs.lanes.push_by_lanes.Goals as goal

pub sum_by_lanes-requires-clause-nodes : goal.sum_by_lanes-requires-clause-nodes
sum_by_lanes-requires-clause-nodes g c =
    let air = c.args.air.now in
    let lane = g.P.PackedField.lane in
    let nodes = c.as_slice-nodes.result.now in
    let m = values_in g.F.Field.ops (λ x. x) g.F.Field.ops.zero
    (lane_entries lane 0 (entries_of c.args.window.now)) in
    let values = ap (in_lane lane 0) c.as_slice-nodes.ensures.value
    ∙ c.in_ok-evaluate_by_lanes.ensures 0 g.met.P.PackedField.width_law in
    reversed_valued (length air.nodes.items) (length nodes)
    air.constraints.items c.args.reversed.now c.args.reversed.now c.requires.reversed refl
    (sym (length-map nodes (λ v. lane v 0)) ∙ ap length values ∙ length_meanings m air.nodes.items)
    c.requires.well_formed.constraints

pub returns : goal.returns
returns g c h n alpha x powers selectors off there first last =
    let F = g.F.Field.ops in
    let K = g.EF.Field.ops in
    let lift = g.EF.ExtensionField.lift in
    let lane : g.row.P.Denot → ℕ → g.row.F.Denot = g.P.PackedField.lane in
    let width = g.P.PackedField.WIDTH in
    let air = c.args.air.now in
    let reversed = c.args.reversed.now in
    let packed = c.args.selectors.now in
    let nodes = c.as_slice-nodes.result.now in
    let sums = c.as_slice-sums.result.now in
    let seen = entries_of c.args.window.now in
    let scaled : ℕ → g.row.EF.Denot = λ l. K.mul (get_or sums l K.zero)
    (lift (lane packed.inv_vanishing l)) in
    c.in_ok-push_scaled.ensures
    ∙ ap (λ xs. c.args.values.now.items ++ xs) (tabulate-equal width scaled
    (λ l. quotient_on_row F K lift air h n alpha (lane_entries lane l seen) (x l))
    (λ l within.
    let row = map (selected_in_lane F lane packed nodes l) reversed in
    let sum : get_or sums l K.zero
    ≡ sum_below K (length row) (row_term F K lift c.args.powers.now row) =
    ap (λ xs. get_or xs l K.zero) c.as_slice-sums.ensures.value
    ∙ c.in_ok-sum_by_lanes.ensures.sums l within
    ∙ ap (λ m. sum_below K m (row_term F K lift c.args.powers.now row))
    (sym (length-map reversed (selected_in_lane F lane packed nodes l))) in
    row_value F g.met.F.Field.laws K g.met.EF.Field.laws lift g.met.EF.ExtensionField.lift_law h
    (x l) n (off l within) there first last (selectors_in_lane lane l packed)
    (selectors l within) air alpha (lane_entries lane l seen) reversed (in_lane lane l nodes) row
    c.args.powers.now c.requires.reversed
    (ap (in_lane lane l) c.as_slice-nodes.ensures.value
    ∙ c.in_ok-evaluate_by_lanes.ensures l within) refl powers
    (get_or sums l K.zero) (scaled l) sum refl))
