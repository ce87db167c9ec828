use Rattle.std.proofs.Common.{◌<◌, [], List, length, map, get_or, ap, sym, ◌∙◌, arith}
use Rattle.std.proofs.Math.ListN.{get_or-map}
use Rattle.std.proofs.lemmas.List.{length-map, get_or_default}
use Rattle.algebra.specs.Polynomial.{val}
use Rattle.p3_matrix.specs.Matrix.{rows}
use Rattle.p3_matrix.proofs.Widths.{row_width}
use Rattle.p3_fri_batch.proofs.points.add_matrix.Goals as goal

pub returns-clause-sums : goal.returns-clause-sums
returns-clause-sums g c =
    let lift = g.EF.ExtensionField.lift in
    let all = rows c.args.opened.now.matrix.now in
    let f : List g.row.F.Denot → g.row.EF.Denot =
    λ row. val g.EF.Field.ops (map lift row) c.args.ladder.now.alpha in
    λ _ i d ts l st wo.
    let below : i < length all = omega (arith, l, c.requires.height) in
    let row = get_or all i [] in
    c.add_opened_points.ensures.sums i d (map lift row) ts l
    (length-map row lift ∙ row_width c.args.opened.now.matrix.now i below)
    (ap (λ xs. get_or xs i d) (c.deref.ensures.value ∙ c.in_ok-compressed.ensures)
    ∙ get_or_default (map f all) i d (f []) (omega (arith, below, length-map all f))
    ∙ get_or-map f all i [])
    st wo

pub add_opened_points-requires-clause-compressed : goal.add_opened_points-requires-clause-compressed
add_opened_points-requires-clause-compressed g c =
    let all = rows c.args.opened.now.matrix.now in
    let f : List g.row.F.Denot → g.row.EF.Denot =
    λ row. val g.EF.Field.ops (map g.EF.ExtensionField.lift row) c.args.ladder.now.alpha in
    ap length (c.deref.ensures.value ∙ c.in_ok-compressed.ensures) ∙ length-map all f
    ∙ sym c.requires.height
