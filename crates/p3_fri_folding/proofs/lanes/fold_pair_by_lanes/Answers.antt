use Rattle.std.proofs.Common.{◌≡◌, ap, ap₂, ◌∙◌}
use Rattle.algebra.specs.Field.{sub}
use Rattle.p3_fri_folding.proofs.Slopes.{fold_by_slope}
use Rattle.p3_fri_folding.proofs.lanes.fold_pair_by_lanes.Goals as goal

pub returns : goal.returns
returns g c l i h lane within below inverse =
    let field = g.met.EF.Field in
    let packed = g.met.EF.ExtensionPacking.PackedField in
    let K = g.EF.Field.ops in
    let lift = g.EF.ExtensionField.lift in
    let at : g.row.EF-ExtensionPacking.Denot → g.row.EF.Denot = λ x. g.EF.ExtensionPacking.PackedField.lane x l in
    let t = lift (g.F.Packing.PackedField.lane c.args.half_inverses l) in
    let slope : at c.add.result ≡ K.add (K.mul c.args.beta t) c.halve.result =
    packed.add_law c.scale_lanes.result c.broadcast-half.result c.add.result c.add.ensures l lane
    ∙ ap₂ K.add (c.scale_lanes.ensures l lane ∙ ap (λ x. K.mul x t) (c.broadcast-beta.ensures l lane)) (c.broadcast-half.ensures l lane) in
    fold_by_slope g.F.Field.ops K lift g.met.F.Field.laws field.laws g.met.EF.ExtensionField.lift_law g.F.TwoAdicField.TWO_ADICITY g.F.TwoAdicField.root g.met.F.TwoAdicField.roots_law
    i h (g.F.Packing.PackedField.lane c.args.half_inverses l) c.args.beta (at c.args.left) (at c.args.right) c.halve.result (at c.add-2.result) within below inverse
    (c.halve.ensures ∙ c.ONE.ensures ∙ field.one_law)
    (packed.add_law c.args.right c.mul.result c.add-2.result c.add-2.ensures l lane
    ∙ ap (λ x. K.add (at c.args.right) x)
    (packed.mul_law c.sub.result c.add.result c.mul.result c.mul.ensures l lane
    ∙ ap₂ K.mul (packed.sub_law c.args.left c.args.right c.sub.result c.sub.ensures l lane) slope))
