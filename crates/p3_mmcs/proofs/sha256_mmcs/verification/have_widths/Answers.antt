use Rattle.std.proofs.Common.{◌≡◌, length, arith, sym, ap, ◌∙◌, slice_index_or, []}
use Rattle.algebra.specs.Nested.{lists}
use Rattle.algebra.proofs.Nested.{lists_at, length-lists}
use Rattle.p3_mmcs.proofs.Shapes.{widths_all, width_some}
use Rattle.p3_mmcs.proofs.sha256_mmcs.verification.have_widths.Goals as goal

pub returns-then-len-dimensions : goal.returns-then-len-dimensions
returns-then-len-dimensions g c =
    let i = c.loop-i.i in
    let row = c.index-rows-i.result in
    let place : slice_index_or (lists c.args.rows.now) i [] ≡ row.items =
    lists_at c.args.rows.now i row (omega (arith, c.loop-i-test.true, c.requires)) ∙ ap (λ v.
    v.items) (sym c.index-rows-i.is) in
    width_some c.args.dimensions.now (lists c.args.rows.now) i _ c.loop-i-test.true
    (omega (arith, c.loop-i-test.true, c.requires, length-lists c.args.rows.now))
    (λ e. c.if-len-dimensions.true (c.len.ensures ∙ row.ok.0 ∙ ap length (sym place) ∙ e))

pub returns : goal.returns
returns g c =
    widths_all c.args.dimensions.now (lists c.args.rows.now)
    (length-lists c.args.rows.now ∙ c.requires)
    (λ k d l. c.loop-i.invariant k d (omega (arith, l, c.loop-i-test.false)))
