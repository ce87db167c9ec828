use Rattle.std.proofs.Common.{[], ◌∷◌, ◌++◌, length, sym, ap, ap₂, subst, ◌∙◌, rules}
use Rattle.std.proofs.Math.Nat.{le_antisymm}
use Rattle.algebra.specs.Polynomial.{tabulate}
use Rattle.algebra.proofs.Lists.{tabulate-next}
use Rattle.p3_air.specs.Shapes.{HasWidths}
use Rattle.p3_uni_stark_quotient.specs.Given.{on_coset}
use Rattle.p3_uni_stark_quotient.specs.Prepared.{quotient_at}
use Rattle.p3_uni_stark_quotient.specs.Quotient.{quotient_on_row}
use Rattle.p3_uni_stark_quotient.proofs.Entries.{fits_widths}
use Rattle.p3_uni_stark_quotient.proofs.rows.push_rows.Goals as goal

pub quotient_at_row-requires-clause-widths : goal.quotient_at_row-requires-clause-widths
quotient_at_row-requires-clause-widths g c =
    let prepared = c.args.prepared.now in
    let layout = prepared.air.now.layout in
    let test = c.loop-row-test.true in
    subst (λ e. HasWidths layout e) (sym c.window_at-window.ensures)
    (fits_widths layout (length prepared.selectors.now) prepared.step (on_coset prepared.columns)
    c.requires.ready.columns c.loop-row.row test)

pub loop-row-preserved : goal.loop-row-preserved
loop-row-preserved g c h n alpha x hyp start =
    let F = g.F.Field.ops in
    let K = g.EF.Field.ops in
    let lift = g.EF.ExtensionField.lift in
    let prepared = c.args.prepared.now in
    let row = c.loop-row.row in
    let test = c.loop-row-test.true in
    let selectors = c.index-prepared-row.result in
    c.in_ok-push.ensures.items
    ∙ ap₂ (λ xs v. xs ++ v ∷ []) (c.loop-row.invariant h n alpha x hyp start)
    (c.in_ok-value.ensures h (x row) n alpha hyp.powers
    (hyp.selectors row selectors test)
    (hyp.off row test) hyp.generator hyp.first hyp.last
    ∙ ap (λ e. quotient_on_row F K lift prepared.air.now h n alpha e (x row))
    c.window_at-window.ensures)
    ∙ sym (tabulate-next row (quotient_at F K prepared h n alpha x lift))

pub returns : goal.returns
returns g c h n alpha x hyp start =
    c.loop-row.invariant h n alpha x hyp start
    ∙ ap (λ k. tabulate k (quotient_at g.F.Field.ops g.EF.Field.ops c.args.prepared.now h n alpha x
    g.EF.ExtensionField.lift))
    (le_antisymm (c.loop-row.auto.row-end c.requires.first) c.loop-row-test.false)

pub offset_bounds-prepared-row : goal.offset_bounds-prepared-row
offset_bounds-prepared-row g c = search (rules, c.loop-row-test.true)
