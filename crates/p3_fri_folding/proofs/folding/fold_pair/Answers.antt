use Rattle.std.proofs.Common.{ap, ◌∙◌}
use Rattle.algebra.proofs.PairFolds.{fold_by_half_inverse}
use Rattle.p3_fri_folding.proofs.folding.fold_pair.Goals as goal

pub returns : goal.returns
returns g c i h within below inverse =
    let field = g.met.EF.Field in
    let extension = g.met.EF.ExtensionField in
    let two_adic = g.met.F.TwoAdicField in
    let K = g.EF.Field.ops in
    let lift = g.EF.ExtensionField.lift in
    let beta = g.EF.Field.factor_of c.args.beta in
    fold_by_half_inverse g.F.Field.ops K lift g.met.F.Field.laws field.laws extension.lift_law g.F.TwoAdicField.TWO_ADICITY g.F.TwoAdicField.root two_adic.roots_law
    i h c.args.half_inverse beta c.args.left c.args.right c.halve.result c.add-2.result within below inverse
    (c.halve.ensures ∙ field.add_law c.args.left c.args.right c.add.result c.add.ensures)
    (field.add_law c.halve.result c.times.result c.add-2.result c.add-2.ensures
    ∙ ap (λ x. K.add c.halve.result x) (c.times.ensures
    ∙ ap (λ x. K.mul x beta) (c.scale.ensures ∙ ap (λ x. K.mul x (lift c.args.half_inverse)) (field.sub_law c.args.left c.args.right c.sub.result c.sub.ensures))))
