use Rattle.std.proofs.Common.{◌<◌, ◌++◌, ◌∷◌, [], length, map, take, ap, ap₂, sym, ◌∙◌, arith}
use Rattle.std.proofs.lemmas.List.{take_more, map-append, take_all}
use Rattle.p3_periodic.proofs.evaluator.lift_column.Goals as goal

pub loop-i-preserved : goal.loop-i-preserved
loop-i-preserved g c =
    let i = c.loop-i.i in
    let lift = g.EF.ExtensionField.lift in
    let column = c.args.column.now in
    let here : i < length column = omega arith in
    c.in_ok-push.ensures.items
    ∙ ap₂ (λ xs x. xs ++ x ∷ []) c.loop-i.invariant
    (c.from_base.ensures ∙ ap lift c.index-column-i.is)
    ∙ sym (ap (λ ys. map lift ys) (take_more column i c.index-column-i.result here)
    ∙ map-append lift (take i column) _)

pub returns : goal.returns
returns g c =
    c.loop-i.invariant
    ∙ ap (λ xs. map g.EF.ExtensionField.lift xs)
    (take_all c.loop-i.i c.args.column.now (omega arith))
