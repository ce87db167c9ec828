use Rattle.std.proofs.Common.{◌<◌, List, ◌++◌, ◌∷◌, [], length, map, take, ap, ap₂, sym, ◌∙◌, arith}
use Rattle.std.proofs.lemmas.List.{take_more, map-append, take_all}
use Rattle.algebra.specs.Polynomial.{val}
use Rattle.p3_matrix.specs.Matrix.{rows}
use Rattle.p3_fri_batch.proofs.compression.compress.Goals as goal

pub loop-i-preserved : goal.loop-i-preserved
loop-i-preserved g c =
    let i = c.loop-i.i in
    let f : List g.row.F.Denot → g.row.EF.Denot =
    λ row. val g.EF.Field.ops (map g.EF.ExtensionField.lift row) c.args.ladder.now.alpha in
    let here : i < length (rows c.args.matrix.now) = omega
    (arith, c.height-height.ensures, c.loop-i-test.true) in
    c.in_ok-push.ensures.items
    ∙ ap₂ (λ xs x. xs ++ x ∷ []) c.loop-i.invariant (c.combine_row.ensures ∙ ap f c.row.ensures.row)
    ∙ sym (ap (λ ys. map f ys) (take_more (rows c.args.matrix.now) i [] here)
    ∙ map-append f (take i (rows c.args.matrix.now)) _)

pub returns : goal.returns
returns g c =
    c.loop-i.invariant
    ∙ ap (λ xs. map (λ row. val g.EF.Field.ops (map g.EF.ExtensionField.lift row)
    c.args.ladder.now.alpha) xs)
    (take_all c.loop-i.i (rows c.args.matrix.now) (omega (arith, c.height-height.ensures)))
