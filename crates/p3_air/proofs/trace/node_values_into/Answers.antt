use Rattle.std.proofs.Common.{◌<◌, length, sym, ap, subst, ◌∙◌}
use Rattle.std.proofs.lemmas.Result.{on_ok_weaker}
use Rattle.algebra.proofs.Nested.{length-lists}
use Rattle.p3_air.specs.Nodes.{meanings, values_in}
use Rattle.p3_air.specs.Shapes.{HasWidths, assigned}
use Rattle.p3_air.proofs.RowEntries.{entries_widths, entries_read}
use Rattle.p3_air.proofs.trace.node_values_into.Goals as goal

pub evaluate_into-requires-clause-widths : goal.evaluate_into-requires-clause-widths
evaluate_into-requires-clause-widths g c =
    let K = g.F.Field.ops in
    let given = c.args.given.now in
    let layout = c.args.air.now.layout in
    let there =
    subst (λ n. c.args.row < n) (sym (length-lists given.trace.now)) c.requires.row in
    subst (HasWidths layout) (sym (entries_read K given c.args.row c.row_or_empty.ensures
    c.row_or_empty-2.ensures c.row_or_empty-3.ensures c.row_or_empty-4.ensures
    (c.as_slice.ensures.value ∙ c.in_ok-periodic_into.ensures)))
    (entries_widths K layout (assigned given) c.requires.shape c.args.row there)

pub returns : goal.returns
returns g c =
    let K = g.F.Field.ops in
    let nodes = c.args.air.now.nodes.items in
    on_ok_weaker c.evaluate_into.result
    (λ e. e ∙ ap (λ entries. meanings (values_in K (λ x. x) K.zero entries) nodes)
    (entries_read K c.args.given.now c.args.row c.row_or_empty.ensures c.row_or_empty-2.ensures
    c.row_or_empty-3.ensures c.row_or_empty-4.ensures
    (c.as_slice.ensures.value ∙ c.in_ok-periodic_into.ensures)))
    c.evaluate_into.ensures
