use Rattle.std.proofs.Common.{◌++◌, ◌∷◌, [], map, take, ap, ap₂, sym, ◌∙◌}
use Rattle.std.proofs.lemmas.List.{take_more, map-append, take_all}
use Rattle.algebra.specs.Field.{sub}
use Rattle.p3_fri_openings.proofs.denominators.differences.Goals as goal

pub loop-x-preserved : goal.loop-x-preserved
loop-x-preserved g c =
    let K = g.EF.Field.ops in
    let lift = g.EF.ExtensionField.lift in
    let i = c.loop-x.x-index in
    let x = c.x-item.result in
    c.in_ok-push.ensures.items
    ∙ ap₂ (λ xs y. xs ++ y ∷ []) c.loop-x.invariant
    (g.met.EF.Field.sub_law _ _ c.sub.result c.sub.ensures
    ∙ ap (λ y. sub K c.args.point y) (c.from_base.ensures ∙ ap lift c.x-item.is))
    ∙ sym (ap (λ ys. map (λ x. sub K c.args.point (lift x)) ys) (take_more c.args.points.now i x c.loop-x-test.true)
    ∙ map-append (λ x. sub K c.args.point (lift x)) (take i c.args.points.now) _)

pub returns : goal.returns
returns g c =
    c.loop-x.invariant
    ∙ ap (λ ys. map (λ x. sub g.EF.Field.ops c.args.point (g.EF.ExtensionField.lift x)) ys)
    (take_all c.loop-x.x-index c.args.points.now c.loop-x-test.false)
