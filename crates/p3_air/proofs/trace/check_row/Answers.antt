use Rattle.std.proofs.Common.{refl, ap, sym, ◌∙◌, length}
use Rattle.algebra.proofs.Nested.{length-lists}
use Rattle.p3_air.specs.Nodes.{values_in}
use Rattle.p3_air.specs.Satisfied.{entries_at}
use Rattle.p3_air.specs.Shapes.{assigned}
use Rattle.p3_air.proofs.Meanings.{length_meanings, nodes_valued}
use Rattle.p3_air.proofs.RowEntries.{row_holds, row_fails}
use Rattle.p3_air.proofs.trace.check_row.Goals as goal

pub first_failing-requires-clause-nodes : goal.first_failing-requires-clause-nodes
first_failing-requires-clause-nodes g c =
    let K = g.F.Field.ops in
    let air = c.args.air.now in
    let m = values_in K (λ x. x) K.zero (entries_at K (assigned c.args.given.now) c.args.row) in
    nodes_valued c.as_slice-node_values.result.now c.as_slice-constraints.result.now
    air.constraints.items (length air.nodes.items)
    (ap length (c.as_slice-node_values.ensures.value ∙ c.in_default.ensures)
    ∙ length_meanings m air.nodes.items)
    c.as_slice-constraints.ensures.value c.requires.well_formed.constraints

pub returns-in-None : goal.returns-in-None
returns-in-None g c =
    row_holds g.F.Field.ops c.args.air.now (assigned c.args.given.now) c.args.row
    (length c.args.given.now.trace.now) c.as_slice-node_values.result.now
    c.as_slice-constraints.result.now (sym (length-lists c.args.given.now.trace.now))
    (c.as_slice-node_values.ensures.value ∙ c.in_default.ensures)
    c.as_slice-constraints.ensures.value c.in-None.ensures

pub returns-in-Some : goal.returns-in-Some
returns-in-Some g c = (
  refl,
  row_fails g.F.Field.ops c.args.air.now (assigned c.args.given.now) c.args.row
      (length c.args.given.now.trace.now) c.as_slice-node_values.result.now
      c.as_slice-constraints.result.now c.in-Some.constraint
      (sym (length-lists c.args.given.now.trace.now))
      (c.as_slice-node_values.ensures.value ∙ c.in_default.ensures)
      c.as_slice-constraints.ensures.value c.in-Some.ensures,
)
